-- The lines in which it is told why an operation doesn't go on, piece by piece.
use Rattle.std.specs.Prelude.{ℕ, ◌+◌, List, [], ◌∷◌, ◌++◌, codes, cond, decimal, flat_map, length, Option, Some, None}
use Rattle.std.specs.Ordering.{eq_by_cmp}
use Rattle.plan_basics.specs.Keys.{Name, name_cmp}
use Rattle.plan_basics.specs.KeyTexts.{operation_text}
use Rattle.plan_basics.specs.MomentTexts.{moment_text}
use Rattle.plan_basics.specs.declared.keys.OpKey.{OpKey}
use Rattle.special_resources.specs.declared.Mode.{Mode}
use Rattle.special_resources.specs.declared.Mode.TheVariants as mode
use Rattle.status_rules.specs.Texts.{status_letter}
use Rattle.status_rules.specs.declared.Status.{Status}
use Rattle.plan_reasons.specs.Reasons.{lacking_by}
use Rattle.plan_reasons.specs.declared.answer.Why.{Why}
use Rattle.plan_reasons.specs.declared.reasons.Beginning.{Beginning}
use Rattle.plan_reasons.specs.declared.reasons.Beginning.TheVariants as beginning
use Rattle.plan_reasons.specs.declared.reasons.OtherHolder.{OtherHolder}
use Rattle.plan_reasons.specs.declared.reasons.Reason.{Reason}
use Rattle.plan_reasons.specs.declared.reasons.Reason.TheVariants as reason
use Rattle.plan_reasons.specs.declared.reasons.Supply.{Supply}
use Rattle.plan_reasons.specs.declared.reasons.Supply.TheVariants as supply
use Rattle.plan_reasons.specs.declared.reasons.Unsatisfied.{Unsatisfied}

-- a line: its pieces, one after the other, and LF
abbrev pub line : List (List ℕ) → List ℕ
line [] = 10 ∷ []
line (piece ∷ pieces) = piece ++ line pieces

-- how a holder holds a resource
abbrev pub mode_word : Mode → List ℕ
mode_word mode.Shared = codes "shared"
mode_word mode.Exclusive = codes "exclusive"

-- by what an operation is started: the plan named it, or its start was reported
abbrev pub beginning_word : Beginning → List ℕ
beginning_word beginning.Named = codes " named"
beginning_word beginning.Reported = codes " started"
beginning_word beginning.NotStarted = []

-- what lacks
abbrev pub supply_word : Supply → List ℕ
supply_word supply.Servers = codes "servers"
supply_word supply.R1 = codes "R1"
supply_word supply.R2 = codes "R2"

-- a key, and the letter of a status
abbrev pub key_and_status : OpKey → Status → List (List ℕ)
key_and_status o s = operation_text o ∷ codes " " ∷ (status_letter s ∷ []) ∷ []

-- what each reason says
abbrev pub reason_pieces : Reason → List (List ℕ)
reason_pieces (reason.AtRest x) = codes "status " ∷ (status_letter x.status ∷ []) ∷ beginning_word x.beginning ∷ []
reason_pieces (reason.WaitsFor x) = codes "waits for " ∷ key_and_status x.op x.status
reason_pieces reason.Held = codes "held" ∷ []
reason_pieces (reason.TooEarly t) = codes "not before " ∷ moment_text t ∷ []
reason_pieces (reason.Closed w) = w ∷ codes " closed" ∷ []
reason_pieces (reason.ClosedUntil x) = x.workstation ∷ codes " closed until " ∷ moment_text x.until ∷ []
reason_pieces (reason.Lacks x) =
    x.workstation ∷ codes " lacks " ∷ supply_word x.supply ∷ codes ": given out " ∷ decimal x.given ∷ codes ", open " ∷ decimal x.offered ∷ codes ", needed " ∷ decimal x.needed ∷ []
reason_pieces (reason.Unavailable r) = r ∷ codes " not available" ∷ []
reason_pieces (reason.TooLittleLeft x) = x.resource ∷ codes " lacks: left " ∷ decimal x.left ∷ codes ", needed " ∷ decimal x.needed ∷ []
reason_pieces (reason.HeldBy x) = x.resource ∷ codes " held by " ∷ operation_text x.holder ∷ codes " " ∷ mode_word x.mode ∷ []

-- the line of a reason
abbrev pub reason_line : Reason → List ℕ
reason_line r = line (reason_pieces r)

-- the line of another that holds what lacks: its key and status, how it holds it, and how much of it
abbrev pub holder_line : OtherHolder → List ℕ
holder_line x =
    line (codes "  " ∷ operation_text x.holder.operation ∷ codes " " ∷ (status_letter x.status ∷ []) ∷ codes " " ∷ mode_word x.holder.claim.mode ∷ codes " " ∷ decimal x.holder.claim.amount ∷ [])

-- the line of a holder, if this is what it holds
abbrev pub line_if_of : Name → OtherHolder → List ℕ
line_if_of r x = cond (eq_by_cmp name_cmp x.holder.resource r) (holder_line x) []

-- the lines of those of these holders that hold what lacks, if anything does
abbrev pub holder_lines : List OtherHolder → Option Name → List ℕ
holder_lines holders (Some r) = flat_map (line_if_of r) holders
holder_lines holders None = []

-- the line of a reason, and under it those of the holders of what lacks by it
abbrev pub reason_lines : List OtherHolder → Reason → List ℕ
reason_lines holders r = reason_line r ++ holder_lines holders (lacking_by r)

-- the line of a root of the chain
abbrev pub root_line : Unsatisfied → List ℕ
root_line x = line (codes "root " ∷ key_and_status x.op x.status)

-- the first line: the operation, its status and the moment
abbrev pub first_line : OpKey → Status → ℕ → List ℕ
first_line o s m = line (operation_text o ∷ codes " " ∷ (status_letter s ∷ []) ∷ codes " " ∷ moment_text m ∷ [])

-- the whole text: the first line; a line for each reason, with those of the holders of what lacks by it; one for each root; and how many reasons and roots these are
abbrev pub why_text : OpKey → ℕ → Why → List ℕ
why_text o m w =
    first_line o w.status m ++ flat_map (reason_lines w.holders.items) w.reasons.items ++ flat_map root_line w.roots.items
    ++ line (codes "END " ∷ decimal (length w.reasons.items + length w.roots.items) ∷ [])
