-- The records that a value brings, by its members.
use Rattle.std.proofs.Common.{◌≡◌, List, ℕ, Option, Some, None, MatchOption, codes, subst, sym}
use Rattle.std.specs.Option.{option_and_then}
use Rattle.serde_json.specs.Data.{Data, string}
use Rattle.serde_json.specs.Find.{get, as_str}
use Rattle.request_json.specs.Brought.{Brings, BringsAt, HasRecords}
use Rattle.request_json.specs.Members.{HasMember, IsJsonOf}
use Rattle.request_json.specs.declared.records.Brought.{Brought}
use Rattle.request_json.specs.declared.records.Brought.TheVariants as brought
use Rattle.request_json.proofs.Texts.{text_there}

-- a value without a `do`, without records, or with another `do` brings none
pub no_verb_brings : (d : Data) → None ≡ option_and_then as_str (get (codes "do") d) → (b : Brought) → ¬ BringsAt d b
no_verb_brings d none (brought.Addition text) h = absurd (cc (rw h.0 at none))
no_verb_brings d none (brought.Extension text) h = absurd (cc (rw h.0 at none))

pub no_records_brings : (d : Data) → None ≡ option_and_then as_str (get (codes "records") d) → (b : Brought) → ¬ BringsAt d b
no_records_brings d none (brought.Addition text) h = absurd (cc (rw h.1 at none))
no_records_brings d none (brought.Extension text) h = absurd (cc (rw h.1 at none))

pub other_brings : (d : Data) (verb : List ℕ) → Some verb ≡ option_and_then as_str (get (codes "do") d) → ¬ (verb ≡ codes "add") → ¬ (verb ≡ codes "extend") → (b : Brought) → ¬ BringsAt d b
other_brings d verb e add extend (brought.Addition text) h = let here = text_there (get (codes "do") d) verb e in let same : verb ≡ codes "add" = cc (here, h.0) in add same
other_brings d verb e add extend (brought.Extension text) h = let here = text_there (get (codes "do") d) verb e in let same : verb ≡ codes "extend" = cc (here, h.0) in extend same

-- with one of these it brings its records
pub records_brought : (d : Data) (verb name records text : List ℕ) → Some verb ≡ option_and_then as_str (get (codes "do") d) → Some records ≡ option_and_then as_str (get (codes "records") d) → verb ≡ name → text ≡ records → HasRecords d name text
records_brought d verb name records text e r is same = (
  subst (λ v. HasMember d (codes "do", string v)) is (text_there (get (codes "do") d) verb e),
  subst (λ t. HasMember d (codes "records", string t)) (sym same) (text_there (get (codes "records") d) records r),
)

-- so does a text
pub none_read : (body : List ℕ) → ((d : Data) → ¬ IsJsonOf body d) → (b : Brought) → ¬ Brings body b
none_read body none b h = none h.0 h.1

pub brought_read : (body : List ℕ) (d : Data) (found : Option Brought) → IsJsonOf body d → MatchOption found ((b : Brought) → ¬ BringsAt d b) (BringsAt d) → MatchOption found ((b : Brought) → ¬ Brings body b) (Brings body)
brought_read body d None json none = λ b h. let same : h.0 ≡ d = cc (json.1, h.1.1) in none b (subst (λ e. BringsAt e b) same h.2)
brought_read body d (Some b) json is = (d, json, is)
