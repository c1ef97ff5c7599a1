-- Contents as they were before anything was reported of their operations.
use Rattle.std.proofs.Common.{refl, subst, true, false, Bool}
use Rattle.status_rules.specs.declared.Mark.TheVariants as mark
use Rattle.plan_basics.specs.declared.keys.OpKey.{OpKey}
use Rattle.plan_model.specs.Contents.{Contents, Operation}
use Rattle.plan_model.specs.Valid.{IsUntouched, IsValid}
use Rattle.plan_records.specs.Changes.{revised}
use Rattle.plan_drafts.specs.Drafts.{IsDraft}
use Rattle.plan_rows.specs.plan_laws.proofs.Revising.{valid_revised, was, with_state}

-- an operation of which nothing is reported, and whose flags are clear
abbrev pub untouched : Operation → Operation
untouched op = record op { mark = mark.Unmarked; held = false; nop = false }

abbrev pub each : OpKey → Bool
each o = true

-- all operations are such
abbrev pub bare : Contents → Contents
bare P = revised each untouched P

pub bare_is_draft : (P : Contents) → IsValid P → IsDraft (bare P)
bare_is_draft P valid = record {
  valid = valid_revised each untouched P (λ op. refl) (λ op. refl) (λ o op e t is. with_state is mark.Unmarked false false (λ code same. absurd (cc))) valid;
  untouched = λ o x e. subst IsUntouched (was each untouched P o x e).2 (refl, refl, refl);
}
