-- The list of reasons, kind by kind.
use Rattle.std.proofs.Common.{◌≡◌, inl, inr, sym, ap, subst, ◌∙◌, arith, ℕ, ◌+◌, ◌≤◌, true, false, true≢false, List, [], ◌∷◌, ◌++◌, Contains, Option, Some, None}
use Rattle.std.specs.FinMap.{get}
use Rattle.std.specs.List.{AllPairs}
use Rattle.std.specs.Option.{option_to_list}
use Rattle.std.proofs.lemmas.Bool.{cases_lt}
use Rattle.std.proofs.lemmas.List.Elements.{All-append, Contains-append_cases, Contains-append_left, Contains-append_right}
use Rattle.std.proofs.lemmas.Option.{none-some, same_Some}
use Rattle.plan_basics.specs.declared.keys.OpKey.{OpKey}
use Rattle.plan_drafts.proofs.Lists.{Differ, all_by_members, contains_cases, contains_head, contains_later, contains_none, differ_from_pairs, pairs_from_differ}
use Rattle.plan_model.specs.Contents.{Contents, Operation}
use Rattle.plan_reasons.specs.Order.{ComesBefore, reason_place}
use Rattle.plan_reasons.specs.Parts.{AreBefore, AreOfKind, IsOfKind}
use Rattle.plan_reasons.specs.Reasons.{IsReasonOf, needs_start}
use Rattle.plan_reasons.specs.Whys.{AreReasons}
use Rattle.plan_reasons.specs.declared.reasons.Reason.{Reason}
use Rattle.plan_reasons.specs.declared.reasons.Reason.TheVariants as reason
use Rattle.plan_reasons.proofs.KindPlaces.{before_by_kind, kind_low}

-- ---- two lists in order, one after the other

module _ {X : Type 0} (R : X → X → Type 0) where
  differ_append : (xs ys : List X) → Differ R xs → Differ R ys → ((a b : X) → Contains xs a → Contains ys b → R a b) → Differ R (xs ++ ys)
  differ_append [] ys h k cross = k
  differ_append (x ∷ xs) ys h k cross =
      (All-append (R x) xs ys h.0 (all_by_members (R x) ys (λ b has. cross x b (contains_head x xs) has)), differ_append xs ys h.1 k (λ a b in_a in_b. cross a b (contains_later x xs a in_a) in_b))

  pub pairs_append : (xs ys : List X) → AllPairs R xs → AllPairs R ys → ((a b : X) → Contains xs a → Contains ys b → R a b) → AllPairs R (xs ++ ys)
  pairs_append xs ys h k cross = pairs_from_differ R (xs ++ ys) (differ_append xs ys (differ_from_pairs R xs h) (differ_from_pairs R ys k) cross)

module _ (P : Contents) (o : OpKey) (op : Operation) (m : ℕ) where
  -- ---- the reason of one kind

  pub none_of_kind : (kind : ℕ) → ((r : Reason) → reason_place r ≡ kind → IsReasonOf P o op m r → ⊥) → IsOfKind P o op m kind None
  none_of_kind kind never r = (λ e. absurd (none-some r e), λ h. absurd (never r h.1 h.0))

  pub some_of_kind : (kind : ℕ) (x : Reason) → IsReasonOf P o op m x → reason_place x ≡ kind → ((r : Reason) → reason_place r ≡ kind → IsReasonOf P o op m r → x ≡ r) → IsOfKind P o op m kind (Some x)
  some_of_kind kind x is place one r =
      (λ e. subst (λ z. IsReasonOf P o op m z × (reason_place z ≡ kind)) (same_Some x r e) (is, place), λ h. ap Some (one r h.1 h.0))

  pub list_of_kind : (kind : ℕ) (found : Option Reason) → IsOfKind P o op m kind found → AreOfKind P o op m kind (option_to_list found)
  list_of_kind kind None h = record {
    in_order = λ i j d lt within. absurd (omega (arith, within));
    exactly = λ r. (λ has. absurd (contains_none r has), λ is. absurd (none-some r ((h r).1 is)));
  }
  list_of_kind kind (Some x) h = record {
    in_order = λ i j d lt within. absurd (omega (arith, lt, within));
    exactly = λ r. (
      λ has. elim (contains_cases x [] r has) [ inl e ↦ (h r).0 (ap Some e) | inr later ↦ absurd (contains_none r later) ],
      λ is. subst (Contains (x ∷ [])) (same_Some x r ((h r).1 is)) (contains_head x []),
    );
  }

  -- ---- kind after kind

  pub none_before : AreBefore P o op m 0 []
  none_before = record { in_order = λ i j d lt within. absurd (omega (arith, within)); exactly = λ r. (λ has. absurd (contains_none r has), λ h. absurd (omega (arith, h.1))) }

  pub one_more : (kind : ℕ) (xs ys : List Reason) → AreBefore P o op m kind xs → AreOfKind P o op m kind ys → AreBefore P o op m (kind + 1) (xs ++ ys)
  one_more kind xs ys a b = record {
    in_order = pairs_append ComesBefore xs ys a.in_order b.in_order (λ r s in_r in_s.
        let low = ((a.exactly r).0 in_r).1 in let at = ((b.exactly s).0 in_s).1 in before_by_kind r s (omega (arith, low, at)));
    exactly = λ r. (
      λ has. elim (Contains-append_cases xs ys r has) [
        | inl first ↦ let h = (a.exactly r).0 first in (h.0, omega (arith, h.1))
        | inr then' ↦ let h = (b.exactly r).0 then' in (h.0, omega (arith, h.1))
      ],
      λ h. elim (cases_lt (reason_place r) kind) [
        | inl low ↦ Contains-append_left xs ys r ((a.exactly r).1 (h.0, low))
        | inr high ↦ Contains-append_right xs ys r ((b.exactly r).1 (h.0, omega (arith, high, h.1)))
      ],
    );
  }

  pub more_of_kind : (kind : ℕ) (xs ys : List Reason) (found : Option Reason) → ys ≡ xs ++ option_to_list found → IsOfKind P o op m kind found → AreBefore P o op m kind xs → AreBefore P o op m (kind + 1) ys
  more_of_kind kind xs ys found is h a = subst (AreBefore P o op m (kind + 1)) (sym is) (one_more kind xs (option_to_list found) a (list_of_kind kind found h))

  pub more_of_list : (kind : ℕ) (xs ys zs : List Reason) → ys ≡ xs ++ zs → AreOfKind P o op m kind zs → AreBefore P o op m kind xs → AreBefore P o op m (kind + 1) ys
  more_of_list kind xs ys zs is h a = subst (AreBefore P o op m (kind + 1)) (sym is) (one_more kind xs zs a h)

  -- all kinds from that of the not-before on are of operations that go on by a start
  starts : (r : Reason) → 3 ≤ reason_place r → IsReasonOf P o op m r → needs_start P op ≡ true
  starts (reason.AtRest x) high h = absurd (omega (arith, high))
  starts (reason.WaitsFor x) high h = absurd (omega (arith, high))
  starts reason.Held high h = absurd (omega (arith, high))
  starts (reason.TooEarly t) high h = h.0
  starts (reason.Closed w) high h = h.0
  starts (reason.ClosedUntil x) high h = h.0
  starts (reason.Lacks x) high h = h.0
  starts (reason.Unavailable r) high h = h.0
  starts (reason.HeldBy x) high h = h.0
  starts (reason.TooLittleLeft x) high h = h.0

  pub without_start : (found : List Reason) → needs_start P op ≡ false → AreBefore P o op m 3 found → AreBefore P o op m 11 found
  without_start found none a = record {
    in_order = a.in_order;
    exactly = λ r. (
      λ has. let h = (a.exactly r).0 has in (h.0, omega (arith, h.1)),
      λ h. elim (cases_lt (reason_place r) 3) [ inl low ↦ (a.exactly r).1 (h.0, low) | inr high ↦ absurd (true≢false (sym (starts r high h.0) ∙ none)) ],
    );
  }

  -- the reasons of all kinds are all
  pub all_found : (found : List Reason) → get P.operations o ≡ Some op → AreBefore P o op m 11 found → AreReasons P o m found
  all_found found is a = record {
    in_order = a.in_order;
    exactly = λ r. (
      λ has. (op, is, ((a.exactly r).0 has).0),
      λ h. (a.exactly r).1 (subst (λ (x : Operation). IsReasonOf P o x m r) (same_Some h.0 op (sym h.1 ∙ is)) h.2, kind_low r),
    );
  }
