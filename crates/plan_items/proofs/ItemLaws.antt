-- A record says one item at most.
use Rattle.std.proofs.Common.{◌≡◌, get_or, ap, sym, arith, ◌∙◌}
use Rattle.plan_basics.specs.declared.limits.TheConstants.{HIGHEST_PRIORITY, LONGEST_DURATION, LOWEST_PRIORITY, MOST_FIXED, SHORTEST_DURATION}
use Rattle.plan_items.specs.declared.Item.{Item}
use Rattle.plan_items.specs.declared.Item.TheVariants as item
use Rattle.plan_items.specs.Items.{Fields, Says}
use Rattle.plan_items.proofs.PartLaws.{one_attribute, one_availability, one_interval, one_occurrence, one_number, one_operation, one_not_before, one_deadline, one_quantity, one_need}
use Rattle.plan_basics.proofs.MinuteLaws.{one_moment}
use Rattle.plan_items.proofs.KindLaws.{text_at, kind_letter, said_kind, interval_said, resource_said, occurrence_said, operation_said, dependency_said, need_said}

-- two items of one record have one letter
same_letter : (fields : Fields) (a b : Item) → Says fields a → Says fields b → kind_letter a ≡ kind_letter b
same_letter fields a b h k = ap (λ t. get_or t 0 0) (sym (said_kind fields a h) ∙ said_kind fields b k)

-- a record says one item at most: of another kind none, since the first field is the kind's letter
pub one_item : (fields : Fields) (a b : Item) → Says fields a → Says fields b → a ≡ b
one_item fields (item.Workstation n a) (item.Workstation m b) h k =
    let name = sym (ap (λ f. text_at f 1) h.1) ∙ ap (λ f. text_at f 1) k.1 in
    let attribute = one_attribute a b (ap (λ t. get_or t 0 0) (sym (ap (λ f. text_at f 2) h.1) ∙ ap (λ f. text_at f 2) k.1)) in
    λ i. item.Workstation (name i) (attribute i)
one_item fields (item.Interval w x) (item.Interval v y) h k =
    let p = interval_said fields w x h in
    let q = interval_said fields v y k in
    let workstation = sym p.0 ∙ q.0 in
    let interval = one_interval (text_at fields 2) (text_at fields 3) (text_at fields 4) (text_at fields 5) (text_at fields 6) x y p.1 q.1 in
    λ i. item.Interval (workstation i) (interval i)
one_item fields (item.Resource n a x) (item.Resource m b y) h k =
    let p = resource_said fields n a x h in
    let q = resource_said fields m b y k in
    let name = sym p.0 ∙ q.0 in
    let available = one_availability a b (sym p.1 ∙ q.1) in
    let quantity = one_quantity (text_at fields 3) x y p.2 q.2 in
    λ i. item.Resource (name i) (available i) (quantity i)
one_item fields (item.Occurrence a x d) (item.Occurrence b y e) h k =
    let p = occurrence_said fields a x d h in
    let q = occurrence_said fields b y e k in
    let key = one_occurrence (text_at fields 1) (text_at fields 2) a b p.0 q.0 in
    let priority = one_number LOWEST_PRIORITY HIGHEST_PRIORITY (text_at fields 3) x y (omega arith) p.1 q.1 in
    let deadline = one_moment (text_at fields 4) d e p.2 q.2 in
    λ i. item.Occurrence (key i) (priority i) (deadline i)
one_item fields (item.Operation a) (item.Operation b) h k =
    let p = operation_said fields a h in
    let q = operation_said fields b k in
    let same_key = one_operation (text_at fields 1) (text_at fields 2) (text_at fields 3) a.key b.key p.0 q.0 in
    let same_workstation = sym p.1 ∙ q.1 in
    let same_duration = one_number SHORTEST_DURATION LONGEST_DURATION (text_at fields 5) a.duration b.duration (omega arith) p.2 q.2 in
    let same_r1 = one_number 0 MOST_FIXED (text_at fields 6) a.r1 b.r1 (omega arith) p.3 q.3 in
    let same_r2 = one_number 0 MOST_FIXED (text_at fields 7) a.r2 b.r2 (omega arith) p.4 q.4 in
    let same_not_before = one_not_before (text_at fields 8) a.not_before b.not_before p.5 q.5 in
    let same_deadline = one_deadline (text_at fields 9) a.deadline b.deadline p.6 q.6 in
    λ i. item.Operation (record { key = same_key i; workstation = same_workstation i; duration = same_duration i; r1 = same_r1 i; r2 = same_r2 i; not_before = same_not_before i; deadline = same_deadline i })
one_item fields (item.Dependency a b) (item.Dependency c d) h k =
    let p = dependency_said fields a b h in
    let q = dependency_said fields c d k in
    let predecessor = one_operation (text_at fields 1) (text_at fields 2) (text_at fields 3) a c p.0 q.0 in
    let successor = one_operation (text_at fields 4) (text_at fields 5) (text_at fields 6) b d p.1 q.1 in
    λ i. item.Dependency (predecessor i) (successor i)
one_item fields (item.Need a x) (item.Need b y) h k =
    let p = need_said fields a x h in
    let q = need_said fields b y k in
    let operation = one_operation (text_at fields 1) (text_at fields 2) (text_at fields 3) a b p.0 q.0 in
    let need = one_need (text_at fields 4) (text_at fields 5) (text_at fields 6) (text_at fields 7) x y p.1 q.1 in
    λ i. item.Need (operation i) (need i)
one_item fields a b h k = absurd (omega (arith, same_letter fields a b h k))
