-- Lists of all things of which something is so.
use Rattle.std.proofs.Common.{◌≡◌, ◌⊎◌, ◌↔◌, inl, inr, sym, subst, List, [], ◌∷◌, ◌++◌, Contains}
use Rattle.plan_laws.proofs.Sorted.{contains_head, contains_later, contains_cases, contains_none}
use Rattle.operation_graph.proofs.Telling.{Told}

abbrev pub Listed : {A : Type 0} → (A → Type 0) → Type 0
Listed S = (xs : List _) × ((x : _) → Contains xs x ↔ S x)

contains_left : {A : Type 0} (xs ys : List A) (x : A) → Contains xs x → Contains (xs ++ ys) x
contains_left [] ys x h = absurd (contains_none x h)
contains_left (y ∷ xs) ys x h = elim (contains_cases y xs x h) [
  | inl e ↦ subst (Contains (y ∷ xs ++ ys)) e (contains_head y (xs ++ ys))
  | inr later ↦ contains_later y (xs ++ ys) x (contains_left xs ys x later)
]

contains_right : {A : Type 0} (xs ys : List A) (x : A) → Contains ys x → Contains (xs ++ ys) x
contains_right [] ys x h = h
contains_right (y ∷ xs) ys x h = contains_later y (xs ++ ys) x (contains_right xs ys x h)

contains_either : {A : Type 0} (xs ys : List A) (x : A) → Contains (xs ++ ys) x → Contains xs x ⊎ Contains ys x
contains_either [] ys x h = inr h
contains_either (y ∷ xs) ys x h = elim (contains_cases y (xs ++ ys) x h) [
  | inl e ↦ inl (subst (Contains (y ∷ xs)) e (contains_head y xs))
  | inr later ↦ elim (contains_either xs ys x later) [ inl l ↦ inl (contains_later y xs x l) | inr r ↦ inr r ]
]

pub none_listed : {A : Type 0} {S : A → Type 0} → ((x : A) → ¬ S x) → Listed S
none_listed none = ([], λ x. (λ h. absurd (contains_none x h), λ s. absurd (none x s)))

pub one_listed : {A : Type 0} (a : A) → Listed (λ x. a ≡ x)
one_listed a = (a ∷ [], λ x. (λ h. elim (contains_cases a [] x h) [ inl e ↦ e | inr later ↦ absurd (contains_none x later) ], λ e. subst (Contains (a ∷ [])) e (contains_head a [])))

pub alike_listed : {A : Type 0} {S T : A → Type 0} → ((x : A) → S x → T x) → ((x : A) → T x → S x) → Listed S → Listed T
alike_listed f g l = (l.0, λ x. (λ h. f x ((l.1 x).0 h), λ t. (l.1 x).1 (g x t)))

pub either_listed : {A : Type 0} {S T : A → Type 0} → Listed S → Listed T → Listed (λ x. S x ⊎ T x)
either_listed l m = (
  l.0 ++ m.0,
  λ x. (
    λ h. elim (contains_either l.0 m.0 x h) [ inl p ↦ inl ((l.1 x).0 p) | inr q ↦ inr ((m.1 x).0 q) ],
    λ h. elim h [ inl s ↦ contains_left l.0 m.0 x ((l.1 x).1 s) | inr t ↦ contains_right l.0 m.0 x ((m.1 x).1 t) ],
  ),
)

-- those of one key of the list or another
pub union_listed : {K A : Type 0} (S : K → A → Type 0) (ks : List K) → ((k : K) → Contains ks k → Listed (S k)) → Listed (λ x. (k : K) × Contains ks k × S k x)
union_listed S [] each = none_listed (λ x h. contains_none h.0 h.1)
union_listed {A = A} S (k ∷ ks) each = alike_listed {S = λ x. S k x ⊎ ((q : _) × Contains ks q × S q x)}
    (λ x h. elim h [ inl s ↦ (k, contains_head k ks, s) | inr later ↦ (later.0, contains_later k ks later.0 later.1, later.2) ])
    (λ x h. elim (contains_cases k ks h.0 h.1) [ inl e ↦ inl (subst (λ z. S z x) (sym e) h.2) | inr later ↦ inr (h.0, later, h.2) ])
    (either_listed (each k (contains_head k ks)) (union_listed S ks (λ q has. each q (contains_later k ks q has))))

-- their images
pub images_listed : {A B : Type 0} {S : A → Type 0} (f : A → B) → Listed S → Listed (λ y. (x : A) × S x × (f x ≡ y))
images_listed {S = S} f l = alike_listed {S = λ y. (x : _) × Contains l.0 x × (f x ≡ y)}
    (λ y h. (h.0, (l.1 h.0).0 h.1, h.2))
    (λ y h. (h.0, (l.1 h.0).1 h.1, h.2))
    (union_listed (λ x y. f x ≡ y) l.0 (λ x has. one_listed (f x)))

-- where something else can be decided: all of them, or none
pub where_told : {A B : Type 0} {S : A → Type 0} → Told B → (B → Listed S) → Listed (λ x. B × S x)
where_told (inl b) l = alike_listed (λ x s. (b, s)) (λ x h. h.1) (l b)
where_told (inr never) l = none_listed (λ x h. never h.0)
