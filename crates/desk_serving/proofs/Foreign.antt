-- A foreign request is told just that, since an input has one head.
use Rattle.std.proofs.Common.{◌≡◌, ◌∙◌, sym, ap, inl, inr, subst, ℕ, List, [], Option, Some, None, Result, Ok, Err, map, append-nil}
use Rattle.std.specs.Io.KnownBytes.{Keeps, Appends}
use Rattle.sqlite.specs.Store.{Ghosts}
use Rattle.httparse.proofs.GrammarLemmas.{request_unique}
use Rattle.httparse.specs.Grammar.{RequestHead}
use Rattle.httparse.specs.Spans.{name_and_value}
use Rattle.http_messages.specs.declared.asking.Rejection.{Rejection}
use Rattle.http_messages.specs.declared.asking.Rejection.TheVariants as test
use Rattle.http_messages.specs.declared.wanting.Wanted.{Wanted}
use Rattle.http_messages.specs.declared.wanting.Wanted.TheVariants as wanted
use Rattle.http_messages.specs.Foreign.{IsForeign}
use Rattle.http_messages.specs.Looks.{AnswersWanted}
use Rattle.http_messages.specs.Tests.{IsRequestIn, Request}
use Rattle.tracker_http.specs.desk_tables.specs.Desk.{DeskState}
use Rattle.tracker_http.specs.declared.replying.ServeFault.{ServeFault}
use Rattle.tracker_http.specs.declared.replying.ServeFault.TheVariants as fault
use Rattle.desk_serving.specs.declared.served.TheConstants.{MOST_SERVED_BYTES}
use Rattle.desk_serving.specs.declared.terms.Terms.{Terms}
use Rattle.desk_serving.specs.Served.{BreaksOff, Ends, EndsForeign, IsForeignInput, IsWanted, Writes}

-- what is foreign is so by its method and its fields
same_foreign : (p q : Request) → p.method ≡ q.method → p.fields ≡ q.fields → IsForeign p → IsForeign q
same_foreign p q m f (inl hosts) = inl (rw (sym f) hosts)
same_foreign p q m f (inr (post, page)) = inr (sym m ∙ post, rw (sym f) page)

-- two requests in one input have one head
module _ (input : List ℕ) (p q : Request) (is_p : IsRequestIn input p) (is_q : IsRequestIn input q) where
  heads : is_p.0 ≡ is_q.0
  heads = (request_unique input is_p.0 is_q.0 p.rest q.rest is_p.1.reads is_q.1.reads).0

  methods : p.method ≡ q.method
  methods = is_p.2 ∙ ap (λ (h : RequestHead). h.method) heads ∙ sym is_q.2

  fields : p.fields ≡ q.fields
  fields = is_p.4 ∙ ap (λ (h : RequestHead). map name_and_value h.fields) heads ∙ sym is_q.4

-- so a foreign one comes to just that
told_foreign : (input : List ℕ) (p : Request) → IsRequestIn input p → IsForeign p → (found : Result Wanted Rejection) → AnswersWanted MOST_SERVED_BYTES input found → found ≡ Err test.Foreign
told_foreign input p is foreign found (inl none) = absurd (none.1 p is)
told_foreign input p is foreign found (inr (q, is_q, inl is_foreign)) = is_foreign.1
told_foreign input p is foreign found (inr (q, is_q, inr (inl misnamed))) = absurd (misnamed.0 (same_foreign p q (methods input p q is is_q) (fields input p q is is_q) foreign))
told_foreign input p is foreign found (inr (q, is_q, inr (inr own))) = absurd (own.0 (same_foreign p q (methods input p q is is_q) (fields input p q is is_q) foreign))

never_asked : (w : Wanted) → Ok w ≡ Err test.Foreign → ⊥
never_asked w same = absurd cc

-- what is wanted of it, where the input is known
found_foreign : (known : Option (List ℕ)) → IsForeignInput known → (found : Result Wanted Rejection) → IsWanted known found → found ≡ Err test.Foreign
found_foreign None never found is = absurd never
found_foreign (Some input) (p, is_p, foreign) found is = told_foreign input p is_p foreign found is

nothing_added : (old new : Option (List ℕ)) → Appends old new [] → Keeps old new
nothing_added None new h = tt
nothing_added (Some xs) None h = absurd h
nothing_added (Some xs) (Some ys) h = h ∙ append-nil xs

module _ {S : Type 0} (g : Ghosts S) (terms : Terms) (known : Option (List ℕ)) (d e : DeskState S) where
  written : (found : Result Wanted Rejection) (output lines : List ℕ) → found ≡ Err test.Foreign → Writes g terms found d output lines e → Writes g terms (Err test.Foreign) d output lines e
  written found output lines is w = subst (λ (f : Result Wanted Rejection). Writes g terms f d output lines e) is w

  broken : (old new : Option (List ℕ)) → IsForeignInput known → BreaksOff g terms known d e old new → (e ≡ d) × Keeps old new
  broken old new foreign (inl none) = none
  broken old new foreign (inr (a, is, acted)) = absurd (never_asked (wanted.Asked a) (found_foreign known foreign (Ok (wanted.Asked a)) is))

  -- however its exchange ends
  pub foreign_ends : {U : Type 0} (r : Result U ServeFault) (client journal : Option (List ℕ) × Option (List ℕ)) → Ends g terms r known d e client journal → IsForeignInput known → EndsForeign r d e client journal
  foreign_ends (Ok u) client journal (output, lines, (found, is, writes), sent, taken) foreign =
      let w = written found output lines (found_foreign known foreign found is) writes in
      (w.1, nothing_added journal.0 journal.1 (subst (Appends journal.0 journal.1) w.2 taken), subst (Appends client.0 client.1) w.0 sent)
  foreign_ends (Err fault.Writer) client journal (output, lines, (found, is, writes), sent, taken) foreign =
      let w = written found output lines (found_foreign known foreign found is) writes in
      (w.1, nothing_added journal.0 journal.1 (subst (Appends journal.0 journal.1) w.2 taken), tt)
  foreign_ends (Err fault.Reader) client journal h foreign = (h.1.0, h.1.1, tt)
  foreign_ends (Err fault.Memory) client journal h foreign = let kept = broken journal.0 journal.1 foreign h.1 in (kept.0, kept.1, tt)
  foreign_ends (Err fault.Journal) client journal h foreign = let kept = broken journal.0 journal.1 foreign h.1 in (kept.0, kept.1, tt)
