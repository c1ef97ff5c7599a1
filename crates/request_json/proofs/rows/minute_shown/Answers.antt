use Rattle.std.proofs.Common.{◌≡◌, ◌<◌, subst, List, ℕ, IfOk, replicate, arith, rules}
use Rattle.std.proofs.lemmas.List.Elements.{All-replicate}
use Rattle.std.proofs.lemmas.Result.{IfOk-weaker}
use Rattle.std.proofs.lemmas.Str.{IsUtf8-from_ascii}
use Rattle.std.proofs.lemmas.Str.Ascii.{IsAscii-from_all}
use Rattle.std.specs.Prelude.{string_bytes}
use Rattle.request_json.specs.Replies.{minute_shown}
use Rattle.request_json.proofs.rows.minute_shown.Goals as goal

pub returns-in-None : goal.returns-in-None
returns-in-None c =
    let small = IsAscii-from_all (replicate 16 45) (All-replicate (λ b. b < 128) 16 45 (omega arith)) in
    let hyphens : replicate 16 45 ≡ minute_shown c.args.minute = search rules in
    subst (λ (shown : List ℕ). IfOk c.from_utf8_lossy.result (λ text. string_bytes text ≡ shown)) hyphens
    (IfOk-weaker c.from_utf8_lossy.result _ _ (λ text same. same (IsUtf8-from_ascii (replicate 16 45) small)) c.from_utf8_lossy.ensures.ok)
