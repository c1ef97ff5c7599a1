-- What is shown of the faults of a text.
use Rattle.std.proofs.Common.{◌≡◌, ◌↔◌, refl, codes, ℕ, List, [], ◌∷◌, length, Option, Result, IfOk}
use Rattle.std.specs.Io.KnownBytes.{Appends}
use Rattle.std.proofs.KnownBytes.{Appends-trans}
use Rattle.std.proofs.lemmas.Result.{IfOk-weaker}
use Rattle.request_json.specs.RequestFaults.{ReadsAsSomeRequest}
use Rattle.text_commands.specs.Judged.{AreFaultsShown, IsJudged, IsRequestJudged, count_line, ending_of_count}
use Rattle.command_answers.specs.declared.endings.Ending.{Ending}
use Rattle.command_answers.specs.declared.endings.Fault.{Fault}

-- a list is empty exactly where its length is zero
pub by_length : {X : Type 0} (A : Type 0) (xs : List X) → ((xs ≡ []) ↔ A) → ((length xs ≡ 0) ↔ A)
by_length A [] same = (λ _. same.0 refl, λ _. refl)
by_length A (x ∷ xs) same = (λ is. absurd (cc), λ a. let is = same.1 a in absurd (cc))

-- lines were shown, and then how many faults there are
pub faults_shown : (told : List ℕ) (count : ℕ) (old between new : Option (List ℕ)) (r : Result Ending Fault)
    → Appends old between told → IfOk r (λ e. Appends between new (count_line count) × (e ≡ ending_of_count count)) → IfOk r (AreFaultsShown count old new)
faults_shown told count old between new r lines shown =
    IfOk-weaker r (λ e. Appends between new (count_line count) × (e ≡ ending_of_count count)) (AreFaultsShown count old new)
    (λ (e : Ending) (was : Appends between new (count_line count) × (e ≡ ending_of_count count)).
    (told, Appends-trans old between new told (count_line count) lines was.0, was.1)) shown

-- they are those of a text
pub judged : (Denotes : Type 0) (count : ℕ) (old new : Option (List ℕ)) (r : Result Ending Fault)
    → ((count ≡ 0) ↔ Denotes) → IfOk r (AreFaultsShown count old new) → IfOk r (IsJudged Denotes old new)
judged Denotes count old new r none shown =
    IfOk-weaker r (AreFaultsShown count old new) (IsJudged Denotes old new)
    (λ (e : Ending) (was : AreFaultsShown count old new e). (count, was.0, was.1, was.2, none)) shown

-- of the text that was read
pub read_judged : (Denotes : List ℕ → Type 0) (text : List ℕ) (old new : Option (List ℕ)) (r : Result Ending Fault)
    → IfOk r (IsJudged (Denotes text) old new) → IfOk r (λ e. (bytes : List ℕ) × IsJudged (Denotes bytes) old new e)
read_judged Denotes text old new r shown =
    IfOk-weaker r (IsJudged (Denotes text) old new) (λ e. (bytes : List ℕ) × IsJudged (Denotes bytes) old new e)
    (λ (e : Ending) (was : IsJudged (Denotes text) old new e). (text, was)) shown

module _ (word : List ℕ) (old new : Option (List ℕ)) (r : Result Ending Fault) where
  -- a request that was read, where the word is a hyphen
  pub input_judged : word ≡ codes "-" → IfOk r (λ e. (text : List ℕ) × IsJudged (ReadsAsSomeRequest text) old new e) → IfOk r (IsRequestJudged word old new)
  input_judged hyphen shown =
      IfOk-weaker r (λ e. (text : List ℕ) × IsJudged (ReadsAsSomeRequest text) old new e) (IsRequestJudged word old new)
      (λ (e : Ending) (was : (text : List ℕ) × IsJudged (ReadsAsSomeRequest text) old new e). (was.0, λ other. absurd (other hyphen), was.1)) shown

  -- the request that the word is
  pub word_judged : (text : List ℕ) → text ≡ word → IfOk r (IsJudged (ReadsAsSomeRequest text) old new) → IfOk r (IsRequestJudged word old new)
  word_judged text is shown =
      IfOk-weaker r (IsJudged (ReadsAsSomeRequest text) old new) (IsRequestJudged word old new)
      (λ (e : Ending) (was : IsJudged (ReadsAsSomeRequest text) old new e). (text, λ _. is, was)) shown
