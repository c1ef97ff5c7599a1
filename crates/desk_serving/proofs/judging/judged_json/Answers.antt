use Rattle.std.proofs.Common.{◌≡◌, ◌∙◌, ap, sym, subst, map, string_bytes, false}
use Rattle.std.proofs.lemmas.Result.{IfOk-weaker}
use Rattle.serde_json.specs.Data.{Data, string}
use Rattle.serde_json.specs.Written.{compact_text, has_float}
use Rattle.desk_serving.specs.Judged.{judged_data}
use Rattle.desk_serving.proofs.Judged.{judged_plain, judged_same}
use Rattle.desk_serving.proofs.judging.judged_json.Goals as goal

pub value_text-requires : goal.value_text-requires
value_text-requires c =
    let told = c.in_ok-told.told in
    let is = c.in_ok-value.ensures ∙ judged_same _ _ _ _ (c.in_ok-faults.ensures ∙ ap (λ lines. map string (map string_bytes lines)) c.deref.ensures.value) (c.in_ok-warnings.ensures ∙ ap (λ lines. map string (map string_bytes lines)) c.deref-2.ensures.value) in
    subst (λ (d : Data). has_float d ≡ false) (sym is) (judged_plain (map string_bytes told.faults.items) (map string_bytes told.warnings.items))

pub returns : goal.returns
returns c =
    let told = c.in_ok-told.told in
    let is = c.in_ok-value.ensures ∙ judged_same _ _ _ _ (c.in_ok-faults.ensures ∙ ap (λ lines. map string (map string_bytes lines)) c.deref.ensures.value) (c.in_ok-warnings.ensures ∙ ap (λ lines. map string (map string_bytes lines)) c.deref-2.ensures.value) in
    IfOk-weaker c.value_text.result _ _ (λ text made. (map string_bytes told.faults.items, map string_bytes told.warnings.items, c.in_ok-told.ensures, made ∙ ap compact_text is)) c.value_text.ensures
