use Rattle.std.proofs.Common.{ℕ, zero, suc, ◌<◌, [], ◌∷◌, Contains, refl, arith}
use Rattle.test_layers.proofs.starts.starts_as_a_change.Goals as goal

-- the three operations are all that there are
each_of_three : (n : ℕ) → n < 3 → Contains (0 ∷ 1 ∷ 2 ∷ []) n
each_of_three zero lt = (0, omega arith, refl)
each_of_three (suc zero) lt = (1, omega arith, refl)
each_of_three (suc (suc zero)) lt = (2, omega arith, refl)
each_of_three (suc (suc (suc n))) lt = absurd (omega (arith, lt))

pub after_change-requires-clause-changed : goal.after_change-requires-clause-changed
after_change-requires-clause-changed c =
    record {
      graph_before = c.new.result;
      items_before = [];
      were = c.in-Ok.ensures.starts;
      others = λ n lt other. absurd (other (each_of_three n (omega (arith, lt, c.requires.nodes))));
    }
