-- Ways back along edges, and flags of the nodes that are reached.
use Rattle.std.proofs.Common.{◌≡◌, ◌≢◌, ◌↔◌, inl, inr, refl, sym, subst, ◌∙◌, true≢false, ℕ, zero, suc, ◌+◌, ◌<◌, Bool, true, false, List, [], ◌∷◌, ◌++◌, length, take, get_or, set, replicate, Contains, get_or-set_same, get_or-set_other}
use Rattle.std.proofs.lemmas.Bool.{cases_eq}
use Rattle.std.proofs.lemmas.List.{take_more, get_or-replicate}
use Rattle.std.proofs.lemmas.List.Elements.{Contains-append_left, Contains-push, Contains-push_cases}
use Rattle.plan_basics.proofs.Members.{contains_none}
use Rattle.operation_graph.specs.Paths.{LeadsBy, by_edge, by_more, ReachesBy, IsPathBy, end_of}
use Rattle.operation_graph.specs.Graphs.{Digraph, HasEdge, IsGraph, IsSet, AreExactly, Closes}
use Rattle.graph_paths.specs.Returns.{LeadsBackTo}
use Rattle.graph_paths.specs.Reached.{IsReached}

-- ---- flags

none_set : (k n : ℕ) → IsSet (replicate k false) n → ⊥
none_set zero n h = true≢false (sym h)
none_set (suc k) zero h = true≢false (sym h)
none_set (suc k) (suc n) h = none_set k n h

set_of_all : (n i : ℕ) → i < n → IsSet (replicate n true) i
set_of_all n i lt = get_or-replicate n i true false lt

pub flags_begun : (n : ℕ) (flags : List Bool) (nodes : List ℕ) → flags ≡ replicate n false → (i : ℕ) → IsSet flags i ↔ Contains (take 0 nodes) i
flags_begun n flags nodes is i = (λ h. absurd (none_set n i (subst (λ bs. IsSet bs i) is h)), λ has. absurd (contains_none i has))

-- one flag more is set
pub flags_more : (flags : List Bool) (nodes : List ℕ) (k : ℕ) → k < length nodes → get_or nodes k 0 < length flags → ((i : ℕ) → IsSet flags i ↔ Contains (take k nodes) i)
    → (i : ℕ) → IsSet (set flags (get_or nodes k 0) true) i ↔ Contains (take (k + 1) nodes) i
flags_more flags nodes k lt within so_far i =
    let n = get_or nodes k 0 in
    let more : take (k + 1) nodes ≡ take k nodes ++ n ∷ [] = take_more nodes k 0 lt in
    let here : IsSet (set flags n true) n = get_or-set_same flags n true false within in (
      λ h. subst (λ xs. Contains xs i) (sym more) (elim (cases_eq i n) [
        | inl same ↦ subst (Contains (take k nodes ++ n ∷ [])) (sym same) (Contains-push (take k nodes) n)
        | inr other ↦ Contains-append_left (take k nodes) (n ∷ []) i ((so_far i).0 (sym (get_or-set_other flags n i true false other) ∙ h))
      ]),
      λ has. elim (cases_eq i n) [
        | inl same ↦ subst (IsSet (set flags n true)) (sym same) here
        | inr other ↦ elim (Contains-push_cases (take k nodes) n i (subst (λ xs. Contains xs i) more has)) [
          | inl old ↦ get_or-set_other flags n i true false other ∙ (so_far i).1 old
          | inr is ↦ absurd (other (sym is))
        ]
      ],
    )

-- ---- paths

module _ (g : Digraph) where
  abbrev Any : ℕ → Type 0
  Any _ = Unit {0}

  pub reached_itself : (a b : ℕ) → a ≡ b → IsReached g a b
  reached_itself a b e = ([], tt, e)

  reached_by : {a b : ℕ} → LeadsBy (HasEdge g) a b → IsReached g a b
  reached_by {a} {b} (by_edge e) = (b ∷ [], (e, tt, tt), refl)
  reached_by {a} {b = c} (by_more {b = b} e rest) = let r = reached_by rest in (b ∷ r.0, (e, tt, r.1), r.2)

  pub closes_reached : (p s : ℕ) → Closes g p s → IsReached g s p
  closes_reached p s (inl e) = reached_itself s p e
  closes_reached p s (inr path) = reached_by path

  -- a path to another node ends with an edge
  before_end : (rest : List ℕ) (a n : ℕ) → IsPathBy (HasEdge g) Any a rest → end_of a rest ≡ n → n ≢ a → (q : ℕ) × HasEdge g q n × IsReached g a q
  before_end [] a n path end other = absurd (other (sym end))
  before_end (c ∷ rest) a n path end other = elim (cases_eq n c) [
    | inl same ↦ (a, subst (HasEdge g a) (sym same) path.0, reached_itself a a refl)
    | inr later ↦ let r = before_end rest c n path.2 end later in (r.0, r.1, (c ∷ r.2.0, (path.0, tt, r.2.1), r.2.2))
  ]

  pub some_before : (a n : ℕ) → IsReached g a n → n ≢ a → (q : ℕ) × HasEdge g q n × IsReached g a q
  some_before a n (rest, path, end) other = before_end rest a n path end other

  module _ (is : IsGraph g) where
    -- what is reached is a node
    pub reached_node : (a b : ℕ) → a < g.nodes → IsReached g a b → b < g.nodes
    reached_node a b lt (rest, path, end) = subst (λ n. n < g.nodes) end (ends rest a lt path)
      where
        ends : (rest : List ℕ) (a : ℕ) → a < g.nodes → IsPathBy (HasEdge g) Any a rest → end_of a rest < g.nodes
        ends [] a lt path = lt
        ends (b ∷ rest) a lt path = ends rest b (is.ends a b path.0).1 path.2

    -- along live nodes, where all nodes are live
    module _ (live : List Bool) (all : live ≡ replicate g.nodes true) where
      to_live : (a : ℕ) (rest : List ℕ) → IsPathBy (HasEdge g) Any a rest → IsPathBy (HasEdge g) (IsSet live) a rest
      to_live a [] path = tt
      to_live a (b ∷ rest) path = (path.0, subst (λ bs. IsSet bs b) (sym all) (set_of_all g.nodes b (is.ends a b path.0).1), to_live b rest path.2)

      from_live : (a : ℕ) (rest : List ℕ) → IsPathBy (HasEdge g) (IsSet live) a rest → IsPathBy (HasEdge g) Any a rest
      from_live a [] path = tt
      from_live a (b ∷ rest) path = (path.0, tt, from_live b rest path.2)

      pub reached_are : (from : ℕ) (nodes : List ℕ) → AreExactly (ReachesBy (HasEdge g) (IsSet live) from) nodes → (n : ℕ) → Contains nodes n ↔ IsReached g from n
      reached_are from nodes exactly n = (
        λ has. let r = (exactly.1 n).0 has in (r.0, from_live from r.0 r.1, r.2),
        λ reached. (exactly.1 n).1 (reached.0, to_live from reached.0 reached.1, reached.2),
      )

-- ---- ways back

pub back_more : {K : Type 0} (edge : K → K → Type 0) (a : K) (way : List K) (b c : K) → LeadsBackTo edge a way b → edge c b → LeadsBackTo edge a (way ++ c ∷ []) c
back_more edge a [] b c e h = (subst (edge c) (sym e) h, refl)
back_more edge a (d ∷ way) b c h k = (h.0, back_more edge d way b c h.1 k)

pub back_along : {K : Type 0} (edge other : K → K → Type 0) → ((p s : K) → edge p s → other p s) → (a : K) (way : List K) (b : K) → LeadsBackTo edge a way b → LeadsBackTo other a way b
back_along edge other f a [] b e = e
back_along edge other f a (c ∷ way) b h = (f c a h.0, back_along edge other f c way b h.1)
