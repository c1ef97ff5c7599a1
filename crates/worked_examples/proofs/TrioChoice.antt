-- The choices from three operations.
use Rattle.std.proofs.Common.{ℕ, ◌≡◌, sym, ◌∙◌, Bool, true, false, true≢false, List}
use Rattle.plan_basics.specs.declared.keys.OpKey.{OpKey}
use Rattle.ready_list.specs.declared.ReadyKey.{ReadyKey}
use Rattle.ready_list.specs.Choice.{IsChoice, among, is_among, operations_of}
use Rattle.plan_model.specs.Contents.{Contents}
use Rattle.plan_model.specs.Ready.{IsChosen, IsOnAutomatic, IsReadyList, named}
use Rattle.plan_model.specs.Starts.{IsAllowedToStart}
use Rattle.plan_model.proofs.Looks.{split_at}
use Rattle.worked_examples.proofs.Lists.{EachSplit, each_split}

-- a choice from lists that are written out, member by member
pub choice_by : (automatic : OpKey → Type 0) (allowed : List OpKey → OpKey → Type 0) (ready chosen : List OpKey) → chosen ≡ among chosen ready → EachSplit chosen (λ before o. automatic o) → EachSplit chosen allowed
    → EachSplit ready (λ before o. is_among chosen o ≡ false → allowed (among chosen before) o → ⊥) → IsChoice automatic allowed ready chosen
choice_by automatic allowed ready chosen in_order on each others = record {
  in_order = in_order;
  on_automatic = λ o has. let s = split_at chosen o has in each_split chosen (λ before x. automatic x) on s.0 s.1 o s.2;
  members = λ before after o split. each_split chosen allowed each before after o split;
  others = λ before after o split _ left. each_split ready (λ bs x. is_among chosen x ≡ false → allowed (among chosen bs) x → ⊥) others before after o split left;
}

-- chosen from a ready list that is written out
pub chosen_by : (P : Contents) (m : ℕ) (keys : List ReadyKey) (chosen : List OpKey) → IsReadyList P keys → chosen ≡ among chosen (operations_of keys) → EachSplit chosen (λ before o. IsOnAutomatic P o)
    → EachSplit chosen (λ before o. IsAllowedToStart (named before P) o m)
    → EachSplit (operations_of keys) (λ before o. is_among chosen o ≡ false → IsAllowedToStart (named (among chosen before) P) o m → ⊥) → IsChosen P m chosen
chosen_by P m keys chosen list in_order on each others = record {
  ready = keys;
  is_ready_list = list;
  choice = choice_by (IsOnAutomatic P) (λ before o. IsAllowedToStart (named before P) o m) (operations_of keys) chosen in_order on each others;
}

-- what is chosen isn't left
pub not_left : {A : Type 0} (b : Bool) → b ≡ true → b ≡ false → A
not_left b e f = absurd (true≢false (sym e ∙ f))
