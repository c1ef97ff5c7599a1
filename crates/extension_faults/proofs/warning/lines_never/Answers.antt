use Rattle.std.proofs.Common.{◌≡◌, ◌++◌, sym, subst, arith, ◌+◌, ◌<◌, ℕ, List, map, length, get_or, codes, decimal, string_bytes, take}
use Rattle.std.proofs.lemmas.List.{map-id, take_all}
use Rattle.std.specs.List.{AllZip}
use Rattle.extension_faults.specs.Warned.{WarnsFrom}
use Rattle.extension_faults.proofs.Lines.{zip_read, zip_seen}
use Rattle.extension_faults.proofs.warning.lines_never.Goals as goal

pub loop-place-preserved : goal.loop-place-preserved
loop-place-preserved c =
    let xs = c.args.places.now in
    let i = c.loop-place.place-index in
    let within : i < length xs = omega arith in
    let text = c.in_ok-never_text.field-0 in
    let warns : WarnsFrom c.args.lines.now (get_or xs i 0) (string_bytes text) = subst (λ n. (wrong : List ℕ) × (string_bytes text ≡ codes "warning: line " ++ decimal n ++ codes ": " ++ wrong)) c.line_of.ensures c.in_ok-never_text.ensures in
    subst (AllZip (λ (p : ℕ) line. WarnsFrom c.args.lines.now p (string_bytes line)) (take (i + 1) xs)) (sym c.in_ok-push.ensures.items)
    (zip_read (λ (p : ℕ) line. WarnsFrom c.args.lines.now p (string_bytes line)) xs c.loop-place.told.items i 0 text within c.loop-place.invariant warns)

pub returns : goal.returns
returns c =
    let xs = c.args.places.now in
    subst (λ (ps : List ℕ). AllZip (WarnsFrom c.args.lines.now) ps (map string_bytes c.loop-place.told.items)) (map-id xs)
    (zip_seen (λ (p : ℕ). p) string_bytes (WarnsFrom c.args.lines.now) xs c.loop-place.told.items
    (subst (λ ys. AllZip (λ (p : ℕ) line. WarnsFrom c.args.lines.now p (string_bytes line)) ys c.loop-place.told.items) (take_all c.loop-place.place-index xs (omega arith)) c.loop-place.invariant))
