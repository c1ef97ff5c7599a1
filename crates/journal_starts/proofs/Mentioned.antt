-- What the lines of a journal have told so far, and what those after them tell.
use Rattle.std.proofs.Common.{◌≡◌, ℕ, List, [], ◌++◌, append_assoc, append-nil, subst, sym, Option, None}
use Rattle.command_answers.specs.Lines.{IsFirstLine}
use Rattle.http_messages.specs.declared.asking.Asked.{Asked}
use Rattle.plan_basics.specs.declared.keys.OpKey.{OpKey}
use Rattle.journal_starts.specs.Lines.{AreMentioned, AreMentions, IsLineRead, listed, no_more, one_more}

-- the lines before `rest` have told these, and what comes after them is behind these
abbrev pub SoFarMentioned : ℕ → List ℕ → Option Asked → List ℕ → List (OpKey × Option ℕ) → Type 0
SoFarMentioned clock journal a rest mentions = (more : List (OpKey × Option ℕ)) → AreMentions clock a rest more → AreMentioned clock journal (mentions ++ more)

module _ (clock : ℕ) (journal : List ℕ) where
  -- nothing was read
  pub mentioned_first : SoFarMentioned clock journal None journal []
  mentioned_first = λ more p. p

  module _ (a : Option Asked) (rest : List ℕ) (mentions : List (OpKey × Option ℕ)) (so_far : SoFarMentioned clock journal a rest mentions) where
    -- one line more
    pub mentioned_next : (line after : List ℕ) (next : Option Asked) (mention : Option (OpKey × Option ℕ))
        → IsFirstLine rest line after → IsLineRead clock a line next mention → SoFarMentioned clock journal next after (mentions ++ listed mention)
    mentioned_next line after next mention cut read = λ more p.
        rw (append_assoc mentions (listed mention) more) (so_far (listed mention ++ more) (one_more a rest line after next mention more cut read p))

    -- no line is left
    pub mentioned_all : rest ≡ [] → AreMentioned clock journal mentions
    mentioned_all none =
        let last : AreMentions clock a rest [] = subst (λ text. AreMentions clock a text []) (sym none) (no_more a) in
        subst (AreMentioned clock journal) (append-nil mentions) (so_far [] last)
