use Rattle.std.proofs.Common.{◌∙◌, ap, map, string_bytes}
use Rattle.std.proofs.lemmas.Result.{IfOk-weaker}
use Rattle.tracker_http.specs.Faulty.{faulty_bytes}
use Rattle.tracker_http.proofs.faulty.no_request.Goals as goal

pub returns : goal.returns
returns c =
    IfOk-weaker c.faulty_reply.result _ _ (λ output made. (map string_bytes c.in_ok-lines.lines.items, c.in_ok-lines.ensures.exactly, made ∙ ap (λ lines. faulty_bytes (map string_bytes lines)) c.deref.ensures.value)) c.faulty_reply.ensures
