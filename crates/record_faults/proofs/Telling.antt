-- What the finders of faults tell: the one fault of its kind that a place has, or that it has none.
use Rattle.std.proofs.Common.{◌≡◌, inl, inr, refl, sym, ap, subst, ◌∙◌, arith, ℕ, zero, suc, ◌<◌, ◌≤◌, List, [], ◌∷◌, length, get_or, slice_get, Some, None, option_map, Vec, Global}
use Rattle.std.specs.List.{AllZip}
use Rattle.std.proofs.lemmas.Bool.{cases_lt}
use Rattle.std.proofs.lemmas.Option.{none-some, same_Some, slice_get_within, slice_get-map, slice_get_read}
use Rattle.std.proofs.lemmas.List.{length-map}
use Rattle.plan_items.specs.declared.Item.{Item}
use Rattle.plan_items.specs.Items.{Fields, fields_of}
use Rattle.plan_basics.specs.declared.keys.OccKey.{OccKey}
use Rattle.plan_drafts.specs.declared.RowKey.{RowKey}
use Rattle.plan_drafts.specs.declared.RowKey.TheVariants as key
use Rattle.record_faults.specs.declared.faults.Fault.{Fault}
use Rattle.record_faults.specs.declared.faults.Fault.TheVariants as fault
use Rattle.record_faults.specs.declared.kinds.Kind.{Kind}
use Rattle.record_faults.specs.declared.kinds.Kind.TheVariants as kind
use Rattle.record_faults.specs.declared.kinds.Form.{Form}
use Rattle.record_faults.specs.declared.kinds.Shape.{Shape}
use Rattle.record_faults.specs.declared.kinds.Shape.TheVariants as shape
use Rattle.record_faults.specs.declared.names.Naming.{Naming}
use Rattle.record_faults.specs.Shapes.{text_at, letter_of, forms_of, AreRead, IsOfKind, IsFirstUnread, IsShapeFault}
use Rattle.record_faults.specs.Sayings.{texts_of, Sayings, SaysAt, PlacedKeys, given, owned, IsGiven, IsFirst, IsNowhere}
use Rattle.record_faults.specs.declared.groups.Group.{Group}
use Rattle.record_faults.specs.Groups.{grouped, most_of, count_of, IsLast}
use Rattle.record_faults.specs.Faults.{name_of, IsSilent, IsRepetition, IsUndefined, IsUnused, IsCrowd, IsMissing, IsAnswer}
use Rattle.record_faults.proofs.Forms.{nine}
use Rattle.record_faults.proofs.Indexes.{one_given, none_given}

-- ---- lists side by side
pub zip_at : {A B : Type 0} (R : A → B → Type 0) (xs : List A) (ys : List B) (i : ℕ) (x : A) (y : B) → AllZip R xs ys → slice_get xs i ≡ Some x → slice_get ys i ≡ Some y → R x y
zip_at R [] ys i x y all e f = absurd (none-some x e)
zip_at R (a ∷ xs) [] i x y all e f = absurd all
zip_at R (a ∷ xs) (b ∷ ys) zero x y all e f = subst (λ z. R z y) (same_Some a x e) (subst (λ z. R a z) (same_Some b y f) all.0)
zip_at R (a ∷ xs) (b ∷ ys) (suc i) x y all e f = zip_at R xs ys i x y all.1 e f

pub zip_length : {A B : Type 0} (R : A → B → Type 0) (xs : List A) (ys : List B) → AllZip R xs ys → length xs ≡ length ys
zip_length R [] [] all = refl
zip_length R [] (y ∷ ys) all = absurd all
zip_length R (x ∷ xs) [] all = absurd all
zip_length R (x ∷ xs) (y ∷ ys) all = ap (λ n. suc n) (zip_length R xs ys all.1)

-- the fields of a record that is read
pub text_read : (records : List (Vec (Vec ℕ Global) Global)) (place : ℕ) (r : Vec (Vec ℕ Global) Global) (fields : List (Vec ℕ Global)) → place < length records → r ≡ get_or records place r → fields ≡ r.items → slice_get (texts_of records) place ≡ Some (fields_of fields)
text_read records place r fields lt is e =
    slice_get-map (λ (z : Vec (Vec ℕ Global) Global). fields_of z.items) records place ∙ ap (option_map (λ (z : Vec (Vec ℕ Global) Global). fields_of z.items)) (slice_get_read records (length records) place r refl lt is)
    ∙ ap (λ z. Some (fields_of z)) (sym e)

pub text_count : (records : List (Vec (Vec ℕ Global) Global)) → length (texts_of records) ≡ length records
text_count records = length-map records (λ (z : Vec (Vec ℕ Global) Global). fields_of z.items)

-- ---- shapes
-- a letter is that of one kind
one_kind : (a b : Kind) → letter_of a ≡ letter_of b → a ≡ b
one_kind kind.Workstation kind.Workstation e = refl
one_kind kind.Interval kind.Interval e = refl
one_kind kind.Resource kind.Resource e = refl
one_kind kind.Occurrence kind.Occurrence e = refl
one_kind kind.Operation kind.Operation e = refl
one_kind kind.Dependency kind.Dependency e = refl
one_kind kind.Need kind.Need e = refl
one_kind a b e = absurd (omega (arith, e))

one_letter : (t : List ℕ) (a b : ℕ) → t ≡ a ∷ [] → t ≡ b ∷ [] → a ≡ b
one_letter t a b e f = cc

same_kind : (fields : Fields) (a b : Kind) → IsOfKind a fields → IsOfKind b fields → a ≡ b
same_kind fields a b at_a at_b = one_kind a b (one_letter (text_at fields 0) (letter_of a) (letter_of b) at_a.1 at_b.1)

module _ (fields : Fields) (forms : List Form) where
  -- no field before the first that isn't of its form is such
  not_before : (p q : ℕ) (f g : Form) → IsFirstUnread forms fields p f → IsFirstUnread forms fields q g → ¬ (p < q)
  not_before p q f g first second lt = first.unread (second.earlier p f lt first.form)

  -- so there is one first
  one_place : (p q : ℕ) (f g : Form) → IsFirstUnread forms fields p f → IsFirstUnread forms fields q g → p ≡ q
  one_place p q f g first second = elim (cases_lt p q) [
    | inl lt ↦ absurd (not_before p q f g first second lt)
    | inr le ↦ elim (cases_lt q p) [
      | inl lt ↦ absurd (not_before q p g f second first lt)
      | inr more ↦ omega (arith, le, more)
    ]
  ]

  one_form : (p q : ℕ) (f g : Form) → IsFirstUnread forms fields p f → IsFirstUnread forms fields q g → f ≡ g
  one_form p q f g first second = same_Some f g (sym first.form ∙ subst (λ z. slice_get forms z ≡ Some g) (sym (one_place p q f g first second)) second.form)

-- where a field isn't of its form, not all are
not_read : (fields : Fields) (c k : Kind) (p : ℕ) (f : Form) → IsShapeFault fields (shape.Field c p f) → IsOfKind k fields → ¬ AreRead (forms_of k) 9 fields
not_read fields c k p f h is read =
    let first = subst (λ z. IsFirstUnread (forms_of z) fields p f) (same_kind fields c k h.0 is) h.1 in
    let within = slice_get_within (forms_of k) p f first.form in
    first.unread (read p f (omega (arith, within, nine k)) first.form)

not_both : (fields : Fields) → IsOfKind kind.Interval fields → ¬ IsOfKind kind.Need fields
not_both fields one other = let same : kind.Interval ≡ kind.Need = same_kind fields kind.Interval kind.Need one other in cc

-- one thing is wrong with a record by itself
pub one_shape : (fields : Fields) (s t : Shape) → IsShapeFault fields s → IsShapeFault fields t → s ≡ t
one_shape fields (shape.Length m) (shape.Length n) h k = ap (λ z. shape.Length z) (sym h.0 ∙ k.0)
one_shape fields (shape.Length m) shape.UnknownKind h k = absurd (h.1 (sym h.0 ∙ k.0))
one_shape fields (shape.Length m) (shape.Field c p f) h k = absurd (h.1 (sym h.0 ∙ k.0.0))
one_shape fields (shape.Length m) shape.EndsEarly h k = absurd (h.1 (sym h.0 ∙ k.0.0))
one_shape fields (shape.Length m) shape.ExclusiveAmount h k = absurd (h.1 (sym h.0 ∙ k.0.0))
one_shape fields shape.UnknownKind (shape.Length n) h k = absurd (k.1 (sym k.0 ∙ h.0))
one_shape fields shape.UnknownKind shape.UnknownKind h k = refl
one_shape fields shape.UnknownKind (shape.Field c p f) h k = absurd (h.1 c k.0.1)
one_shape fields shape.UnknownKind shape.EndsEarly h k = absurd (h.1 kind.Interval k.0.1)
one_shape fields shape.UnknownKind shape.ExclusiveAmount h k = absurd (h.1 kind.Need k.0.1)
one_shape fields (shape.Field c p f) (shape.Length n) h k = absurd (k.1 (sym k.0 ∙ h.0.0))
one_shape fields (shape.Field c p f) shape.UnknownKind h k = absurd (k.1 c h.0.1)
one_shape fields (shape.Field c p f) (shape.Field d q g) h k =
    let same : c ≡ d = same_kind fields c d h.0 k.0 in
    let first = subst (λ z. IsFirstUnread (forms_of z) fields p f) same h.1 in
    let place = one_place fields (forms_of d) p q f g first k.1 in
    let form = one_form fields (forms_of d) p q f g first k.1 in
    λ i. shape.Field (same i) (place i) (form i)
one_shape fields (shape.Field c p f) shape.EndsEarly h k = absurd (not_read fields c kind.Interval p f h k.0 k.2)
one_shape fields (shape.Field c p f) shape.ExclusiveAmount h k = absurd (not_read fields c kind.Need p f h k.0 k.2)
one_shape fields shape.EndsEarly (shape.Length n) h k = absurd (k.1 (sym k.0 ∙ h.0.0))
one_shape fields shape.EndsEarly shape.UnknownKind h k = absurd (k.1 kind.Interval h.0.1)
one_shape fields shape.EndsEarly (shape.Field d q g) h k = absurd (not_read fields d kind.Interval q g k h.0 h.2)
one_shape fields shape.EndsEarly shape.EndsEarly h k = refl
one_shape fields shape.EndsEarly shape.ExclusiveAmount h k = absurd (not_both fields h.0 k.0)
one_shape fields shape.ExclusiveAmount (shape.Length n) h k = absurd (k.1 (sym k.0 ∙ h.0.0))
one_shape fields shape.ExclusiveAmount shape.UnknownKind h k = absurd (k.1 kind.Need h.0.1)
one_shape fields shape.ExclusiveAmount (shape.Field d q g) h k = absurd (not_read fields d kind.Need q g k h.0 h.2)
one_shape fields shape.ExclusiveAmount shape.EndsEarly h k = absurd (not_both fields k.0 h.0)
one_shape fields shape.ExclusiveAmount shape.ExclusiveAmount h k = refl

-- ---- a record that says nothing
module _ (records : List Fields) (said : Sayings) (place : ℕ) where
  pub not_silent : (x : Item) → slice_get said place ≡ Some (Some x) → IsAnswer (IsSilent records said place) None
  not_silent x e (fault.Shape s) h = none-some x (same_Some None (Some x) (sym h.2 ∙ e))
  not_silent x e _ h = h

  one_silent : (fields : Fields) (s : Shape) → slice_get records place ≡ Some fields → IsShapeFault fields s → (g : Fault) → IsSilent records said place g → g ≡ fault.Shape s
  one_silent fields s e is (fault.Shape t) h = let same = same_Some h.0 fields (sym h.1 ∙ e) in ap (λ z. fault.Shape z) (one_shape fields t s (subst (λ z. IsShapeFault z t) same h.3) is)
  one_silent fields s e is _ h = absurd h

  pub silent : (fields : Fields) (s : Shape) → slice_get records place ≡ Some fields → slice_get said place ≡ Some None → IsShapeFault fields s → IsAnswer (IsSilent records said place) (Some (fault.Shape s))
  silent fields s e none is = ((fields, e, none, is), one_silent fields s e is)

-- ---- a key that was given before
module _ (said : Sayings) (place : ℕ) where
  abbrev Keys : PlacedKeys
  Keys = given said

  pub not_given : slice_get Keys place ≡ Some None → IsAnswer (IsRepetition said place) None
  not_given e (fault.Repeated k first) h = none_given Keys place k e h.0
  not_given e _ h = h

  pub one_first : (k : RowKey) (a b : ℕ) → IsFirst Keys k a → IsFirst Keys k b → a ≡ b
  one_first k a b first second = elim (cases_lt a b) [
    | inl lt ↦ absurd (second.none_before a lt first.here)
    | inr le ↦ elim (cases_lt b a) [
      | inl lt ↦ absurd (first.none_before b lt second.here)
      | inr more ↦ omega (arith, le, more)
    ]
  ]

  module _ (k : RowKey) (here : IsGiven Keys k place) (first : ℕ) (is : IsFirst Keys k first) where
    the_first : (q : RowKey) (f : ℕ) → IsGiven Keys q place → IsFirst Keys q f → (q ≡ k) × (f ≡ first)
    the_first q f at first_of = let same : q ≡ k = one_given Keys place q k at here in (same, one_first k f first (subst (λ z. IsFirst Keys z f) same first_of) is)

    pub not_repeated : first ≡ place → IsAnswer (IsRepetition said place) None
    not_repeated e (fault.Repeated q f) h = let same = (the_first q f h.0 h.1).1 in let lt = h.2 in omega (arith, same, e, lt)
    not_repeated e _ h = h

    one_repetition : (g : Fault) → IsRepetition said place g → g ≡ fault.Repeated k first
    one_repetition (fault.Repeated q f) h = let same = the_first q f h.0 h.1 in λ i. fault.Repeated (same.0 i) (same.1 i)
    one_repetition _ h = absurd h

    pub repeated : ¬ (first ≡ place) → IsAnswer (IsRepetition said place) (Some (fault.Repeated k first))
    repeated other = ((here, is, elim (cases_lt first place) [ inl lt ↦ lt | inr le ↦ elim (cases_lt place first) [ inl less ↦ absurd (is.none_before place less here) | inr more ↦ absurd (other (omega (arith, le, more))) ] ]), one_repetition)

-- ---- what is named and defined nowhere
module _ (naming : Naming) (said : Sayings) (place : ℕ) where
  pub nothing_said : slice_get said place ≡ Some None → IsAnswer (IsUndefined naming said place) None
  nothing_said e (fault.Undefined k) h = none-some h.0 (same_Some None (Some h.0) (sym e ∙ h.1))
  nothing_said e _ h = h

  module _ (x : Item) (here : SaysAt said place x) where
    named : (k : RowKey) → IsUndefined naming said place (fault.Undefined k) → name_of naming x ≡ Some k
    named k h = let same : h.0 ≡ x = same_Some h.0 x (same_Some (Some h.0) (Some x) (sym h.1 ∙ here)) in subst (λ z. name_of naming z ≡ Some k) same h.2

    pub nothing_named : name_of naming x ≡ None → IsAnswer (IsUndefined naming said place) None
    nothing_named e (fault.Undefined k) h = none-some k (sym e ∙ named k h)
    nothing_named e _ h = h

    module _ (k : RowKey) (is : name_of naming x ≡ Some k) where
      same_name : (q : RowKey) → IsUndefined naming said place (fault.Undefined q) → q ≡ k
      same_name q h = same_Some q k (sym (named q h) ∙ is)

      pub defined : (first : ℕ) → IsFirst (given said) k first → IsAnswer (IsUndefined naming said place) None
      defined first at (fault.Undefined q) h = h.3 first (subst (λ z. IsGiven (given said) z first) (sym (same_name q h)) at.here)
      defined first at _ h = h

      one_undefined : (g : Fault) → IsUndefined naming said place g → g ≡ fault.Undefined k
      one_undefined (fault.Undefined q) h = ap (λ z. fault.Undefined z) (same_name q h)
      one_undefined _ h = absurd h

      pub undefined : IsNowhere (given said) k → IsAnswer (IsUndefined naming said place) (Some (fault.Undefined k))
      undefined nowhere = ((x, here, is, nowhere), one_undefined)

-- ---- an occurrence without operations
module _ (said : Sayings) (place : ℕ) where
  pub no_occurrence : ((c : OccKey) → ¬ IsGiven (given said) (key.Occurrence c) place) → IsAnswer (IsUnused said place) None
  no_occurrence none fault.NoOperation h = none h.0 h.1
  no_occurrence none _ h = h

  module _ (c : OccKey) (here : IsGiven (given said) (key.Occurrence c) place) where
    pub used : (first : ℕ) → IsFirst (owned said) (key.Occurrence c) first → IsAnswer (IsUnused said place) None
    used first at fault.NoOperation h = let same : key.Occurrence h.0 ≡ key.Occurrence c = one_given (given said) place (key.Occurrence h.0) (key.Occurrence c) h.1 here in h.2 first (subst (λ z. IsGiven (owned said) z first) (sym same) at.here)
    used first at _ h = h

    one_unused : (g : Fault) → IsUnused said place g → g ≡ fault.NoOperation
    one_unused fault.NoOperation h = refl
    one_unused _ h = absurd h

    pub unused : IsNowhere (owned said) (key.Occurrence c) → IsAnswer (IsUnused said place) (Some fault.NoOperation)
    unused nowhere = ((c, here, nowhere), one_unused)

-- ---- more of a group than there may be
module _ (said : Sayings) (place : ℕ) where
  pub not_grouped : slice_get (grouped said) place ≡ Some None → IsAnswer (IsCrowd said place) None
  not_grouped e (fault.TooMany g count) h = none_given (grouped said) place g e h.0.here
  not_grouped e _ h = h

  module _ (g : Group) (here : IsGiven (grouped said) g place) where
    same_group : (k : Group) → IsGiven (grouped said) k place → k ≡ g
    same_group k at = one_given (grouped said) place k g at here

    pub not_first : (p : ℕ) → IsLast (grouped said) place g p → IsAnswer (IsCrowd said place) None
    not_first p last (fault.TooMany k count) h = h.0.none_before p last.before (subst (λ z. IsGiven (grouped said) z p) (sym (same_group k h.0.here)) last.here)
    not_first p last _ h = h

    pub few : count_of g (grouped said) ≤ most_of g → IsAnswer (IsCrowd said place) None
    few le (fault.TooMany k count) h =
        let more : most_of g < count_of g (grouped said) = subst (λ z. most_of z < count_of z (grouped said)) (same_group k h.0.here) (let lt = h.2 in subst (λ n. most_of k < n) h.1 lt) in
        omega (arith, le, more)
    few le _ h = h

    pub crowded : (count : ℕ) → ((i : ℕ) → i < place → ¬ IsGiven (grouped said) g i) → count ≡ count_of g (grouped said) → most_of g < count → IsAnswer (IsCrowd said place) (Some (fault.TooMany g count))
    crowded count none is more = ((record { here = here; none_before = none }, is, more), one)
      where
        one : (f : Fault) → IsCrowd said place f → f ≡ fault.TooMany g count
        one (fault.TooMany k n) h =
            let same = same_group k h.0.here in
            let counts : n ≡ count = h.1 ∙ ap (λ z. count_of z (grouped said)) same ∙ sym is in
            λ i. fault.TooMany (same i) (counts i)
        one _ h = absurd h

-- ---- none of a group
module _ (g : Group) (said : Sayings) where
  pub not_missing : 0 < count_of g (grouped said) → IsAnswer (IsMissing g said (length said)) None
  not_missing some (fault.Missing k) h = let none = h.2 in omega (arith, some, none)
  not_missing some _ h = h

  pub is_missing : count_of g (grouped said) ≡ 0 → IsAnswer (IsMissing g said (length said)) (Some (fault.Missing g))
  is_missing none = ((refl, refl, none), one)
    where
      one : (f : Fault) → IsMissing g said (length said) f → f ≡ fault.Missing g
      one (fault.Missing k) h = ap (λ z. fault.Missing z) h.0
      one _ h = absurd h
