-- What a record is by itself: the form that each field of a kind must have, and the first field that hasn't it.
use Rattle.std.specs.Prelude.{◌≡◌, ◌≢◌, ◌⊎◌, ℕ, ◌+◌, ◌<◌, ◌≤◌, List, [], ◌∷◌, length, Some, slice_get, slice_index_or}
use Rattle.plan_basics.specs.declared.Attr.{Attr}
use Rattle.plan_basics.specs.declared.limits.TheConstants.{MOST_FIXED, MOST_QUANTITY, MOST_SERVERS, SHORTEST_DURATION, LONGEST_DURATION, LOWEST_PRIORITY, HIGHEST_PRIORITY, LEAST_NUMBER, GREATEST_NUMBER}
use Rattle.plan_basics.specs.Attributes.{attribute_letter}
use Rattle.plan_basics.specs.Names.{IsName, IsResourceName}
use Rattle.plan_basics.specs.Minutes.{IsMomentText}
use Rattle.plan_items.specs.Items.{Fields}
use Rattle.plan_items.specs.Parts.{IsNumberText, mode_letter}
use Rattle.special_resources.specs.declared.Mode.TheVariants.{Exclusive}
use Rattle.record_faults.specs.declared.kinds.Kind.{Kind}
use Rattle.record_faults.specs.declared.kinds.Kind.TheVariants as kind
use Rattle.record_faults.specs.declared.kinds.Form.{Form}
use Rattle.record_faults.specs.declared.kinds.Form.TheVariants as form
use Rattle.record_faults.specs.declared.kinds.Shape.{Shape}
use Rattle.record_faults.specs.declared.kinds.Shape.TheVariants as shape

-- the letter of a kind, which is its records' first field
abbrev pub letter_of : Kind → ℕ
letter_of kind.Workstation = 87
letter_of kind.Interval = 73
letter_of kind.Resource = 88
letter_of kind.Occurrence = 79
letter_of kind.Operation = 80
letter_of kind.Dependency = 68
letter_of kind.Need = 78

-- the text is of this form
abbrev pub Reads : Form → List ℕ → Type 0
Reads form.WorkstationName text = IsName 4 text
Reads form.ApplicationName text = IsName 16 text
Reads form.ResourceName text = IsResourceName text
Reads form.Attribute text = (attribute : Attr) × (text ≡ attribute_letter attribute ∷ [])
Reads (form.OneOf a b) text = (text ≡ a ∷ []) ⊎ (text ≡ b ∷ [])
Reads (form.Number least most) text = (n : ℕ) × IsNumberText least most text n
Reads (form.NumberOrEmpty least most) text = (text ≡ []) ⊎ ((n : ℕ) × IsNumberText least most text n)
Reads form.Moment text = (m : ℕ) × IsMomentText text m
Reads form.MomentOrEmpty text = (text ≡ []) ⊎ ((m : ℕ) × IsMomentText text m)
Reads form.Empty text = text ≡ []

-- the number of an operation in its occurrence
abbrev pub operation_number : Form
operation_number = form.Number LEAST_NUMBER GREATEST_NUMBER

-- an amount of a fixed resource
abbrev pub fixed_amount : Form
fixed_amount = form.Number 0 MOST_FIXED

-- how much there is of a special resource, or how much a need takes of it; or empty
abbrev pub quantity : Form
quantity = form.NumberOrEmpty 1 MOST_QUANTITY

-- the forms of the nine fields after a kind's letter
abbrev pub forms_of : Kind → List Form
forms_of kind.Workstation = form.WorkstationName ∷ form.Attribute ∷ form.Empty ∷ form.Empty ∷ form.Empty ∷ form.Empty ∷ form.Empty ∷ form.Empty ∷ form.Empty ∷ []
forms_of kind.Interval = form.WorkstationName ∷ form.Moment ∷ form.Moment ∷ form.Number 0 MOST_SERVERS ∷ fixed_amount ∷ fixed_amount ∷ form.Empty ∷ form.Empty ∷ form.Empty ∷ []
forms_of kind.Resource = form.ResourceName ∷ form.OneOf 89 78 ∷ quantity ∷ form.Empty ∷ form.Empty ∷ form.Empty ∷ form.Empty ∷ form.Empty ∷ form.Empty ∷ []
forms_of kind.Occurrence = form.ApplicationName ∷ form.Moment ∷ form.Number LOWEST_PRIORITY HIGHEST_PRIORITY ∷ form.Moment ∷ form.Empty ∷ form.Empty ∷ form.Empty ∷ form.Empty ∷ form.Empty ∷ []
forms_of kind.Operation =
    form.ApplicationName ∷ form.Moment ∷ operation_number ∷ form.WorkstationName ∷ form.Number SHORTEST_DURATION LONGEST_DURATION ∷ fixed_amount ∷ fixed_amount ∷ form.MomentOrEmpty ∷ form.MomentOrEmpty ∷ []
forms_of kind.Dependency = form.ApplicationName ∷ form.Moment ∷ operation_number ∷ form.ApplicationName ∷ form.Moment ∷ operation_number ∷ form.Empty ∷ form.Empty ∷ form.Empty ∷ []
forms_of kind.Need = form.ApplicationName ∷ form.Moment ∷ operation_number ∷ form.ResourceName ∷ form.OneOf 83 88 ∷ form.OneOf 75 70 ∷ quantity ∷ form.Empty ∷ form.Empty ∷ []

-- a field of a record, empty where there is none
abbrev pub text_at : Fields → ℕ → List ℕ
text_at fields place = slice_index_or fields place []

-- a record of ten fields that begins with the kind's letter
abbrev pub IsOfKind : Kind → Fields → Type 0
IsOfKind k fields = (length fields ≡ 10) × (text_at fields 0 ≡ letter_of k ∷ [])

-- so many of the fields after the letter are of these forms
abbrev pub AreRead : List Form → ℕ → Fields → Type 0
AreRead forms count fields = (i : ℕ) (f : Form) → i < count → slice_get forms i ≡ Some f → Reads f (text_at fields (i + 1))

-- of the fields after the letter this is the first that isn't of its form
pub record IsFirstUnread (forms : List Form) (fields : Fields) (place : ℕ) (f : Form) : Type 0 where
  pub form : slice_get forms place ≡ Some f
  pub earlier : AreRead forms place fields
  pub unread : ¬ Reads f (text_at fields (place + 1))

-- the interval's end isn't after its first minute
abbrev pub EndsEarly : Fields → Type 0
EndsEarly fields = (from : ℕ) × (end : ℕ) × IsMomentText (text_at fields 2) from × IsMomentText (text_at fields 3) end × (end ≤ from)

-- the need is exclusive, and has an amount
abbrev pub HasExclusiveAmount : Fields → Type 0
HasExclusiveAmount fields = (text_at fields 5 ≡ mode_letter Exclusive) × (text_at fields 7 ≢ [])

-- what is wrong with a record by itself
abbrev pub IsShapeFault : Fields → Shape → Type 0
-- it has another number of fields than ten
IsShapeFault fields (shape.Length count) = (length fields ≡ count) × (count ≢ 10)
-- its first field is no kind's letter
IsShapeFault fields shape.UnknownKind = (length fields ≡ 10) × ((k : Kind) → text_at fields 0 ≢ letter_of k ∷ [])
-- of the nine fields after the letter this is the first that isn't of the form that its kind wants there
IsShapeFault fields (shape.Field k place f) = IsOfKind k fields × IsFirstUnread (forms_of k) fields place f
-- all fields are of their forms, and the interval ends before it begins
IsShapeFault fields shape.EndsEarly = IsOfKind kind.Interval fields × EndsEarly fields × AreRead (forms_of kind.Interval) 9 fields
-- all fields are of their forms, and an exclusive need has an amount
IsShapeFault fields shape.ExclusiveAmount = IsOfKind kind.Need fields × HasExclusiveAmount fields × AreRead (forms_of kind.Need) 9 fields
