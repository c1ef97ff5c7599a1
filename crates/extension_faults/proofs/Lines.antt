-- Lines that tell of records, one beside each.
use Rattle.std.proofs.Common.{◌≡◌, ◌≢◌, ◌∙◌, refl, sym, ap, subst, arith, true, false, ℕ, zero, suc, ◌+◌, ◌-◌, ◌<◌, get_or, List, [], ◌∷◌, ◌++◌, append-nil, length, map, take, codes, decimal}
use Rattle.std.proofs.lemmas.Bool.{eqb-false, eqb-true}
use Rattle.std.proofs.Math.Dec.{eqb}
use Rattle.std.proofs.lemmas.List.{length-map, take-map}
use Rattle.std.specs.List.{AllZip}
use Rattle.plan_import.specs.Lines.{BeginOn}
use Rattle.record_faults.proofs.Circling.{whatever_default, zip_last}
use Rattle.extension_faults.specs.Judged.{more_lines, AreTold, TellsFrom}
use Rattle.extension_faults.specs.Warned.{more_warnings, AreWarned, WarnsFrom}
use Rattle.extension_faults.specs.declared.judging.TheConstants.{MOST_TOLD}

-- beside each other as they are seen
pub zip_seen : {A B C D : Type 0} (f : A → C) (g : B → D) (R : C → D → Type 0) (xs : List A) (ys : List B) → AllZip (λ x y. R (f x) (g y)) xs ys → AllZip R (map f xs) (map g ys)
zip_seen f g R [] [] h = tt
zip_seen f g R [] (y ∷ ys) h = absurd h
zip_seen f g R (x ∷ xs) [] h = absurd h
zip_seen f g R (x ∷ xs) (y ∷ ys) h = (h.0, zip_seen f g R xs ys h.1)

-- one more of each, where the one is what is read of its list at its place
pub zip_read : {A B : Type 0} (R : A → B → Type 0) (xs : List A) (ys : List B) (i : ℕ) (d : A) (y : B) → i < length xs → AllZip R (take i xs) ys → R (get_or xs i d) y → AllZip R (take (i + 1) xs) (ys ++ y ∷ [])
zip_read R xs ys i d y lt all one = zip_last R xs ys i (get_or xs i d) y lt (whatever_default xs i d (get_or xs i d) lt) all one

-- ---- whether there are any
pub none_by : {A : Type 0} (xs : List A) (n : ℕ) → n ≡ length xs → true ≡ eqb n 0 → xs ≡ []
none_by [] n same is = refl
none_by (x ∷ xs) n same is = let none : n ≡ 0 = eqb-true n 0 (sym is) in absurd (omega (arith, same, none))

pub some_by : {A : Type 0} (xs : List A) (n : ℕ) → n ≡ length xs → false ≡ eqb n 0 → xs ≢ []
some_by xs n same is none = eqb-false n 0 (sym is) (same ∙ ap length none)

-- ---- how many more there are
nothing_more : {A : Type 0} (new old : List A) (more : ℕ → List A) (n : ℕ) → more 0 ≡ [] → n ≡ 0 → new ≡ old → new ≡ old ++ more n
nothing_more new old more n none is same = same ∙ (sym (append-nil old) ∙ ap (λ xs. old ++ xs) (sym (ap more is ∙ none)))

pub no_more_lines : (new old : List (List ℕ)) (n : ℕ) → n ≡ 0 → new ≡ old → new ≡ old ++ more_lines n
no_more_lines new old n is same = nothing_more new old more_lines n refl is same

pub no_more_warnings : (new old : List (List ℕ)) (n : ℕ) → n ≡ 0 → new ≡ old → new ≡ old ++ more_warnings n
no_more_warnings new old n is same = nothing_more new old more_warnings n refl is same

pub some_more_lines : (n : ℕ) → n ≢ 0 → more_lines n ≡ (decimal n ++ codes " more") ∷ []
some_more_lines zero some = absurd (some refl)
some_more_lines (suc n) some = refl

pub some_more_warnings : (n : ℕ) → n ≢ 0 → more_warnings n ≡ (codes "warning: " ++ decimal n ++ codes " more") ∷ []
some_more_warnings zero some = absurd (some refl)
some_more_warnings (suc n) some = refl

-- ---- all of them
module _ {A : Type 0} (place : A → ℕ) (text starts : List ℕ) (begin : BeginOn text starts) (found : List A) (first lines : List (List ℕ)) where
  first_places : map place (take MOST_TOLD found) ≡ take MOST_TOLD (map place found)
  first_places = sym (take-map place MOST_TOLD found)

  pub are_told : AllZip (TellsFrom starts) (map place (take MOST_TOLD found)) first → lines ≡ first ++ more_lines (length found - MOST_TOLD) → AreTold text (map place found) lines
  are_told each all = record {
    starts = starts;
    begin = begin;
    first = first;
    each = subst (λ (ps : List ℕ). AllZip (TellsFrom starts) ps first) first_places each;
    all = all ∙ ap (λ n. first ++ more_lines (n - MOST_TOLD)) (sym (length-map found place));
  }

  pub are_warned : AllZip (WarnsFrom starts) (map place (take MOST_TOLD found)) first → lines ≡ first ++ more_warnings (length found - MOST_TOLD) → AreWarned text (map place found) lines
  are_warned each all = record {
    starts = starts;
    begin = begin;
    first = first;
    each = subst (λ (ps : List ℕ). AllZip (WarnsFrom starts) ps first) first_places each;
    all = all ∙ ap (λ n. first ++ more_warnings (n - MOST_TOLD)) (sym (length-map found place));
  }
