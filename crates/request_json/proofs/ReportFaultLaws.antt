-- What is told of a text that is to be a report is what is wrong with it.
use Rattle.std.proofs.Common.{◌≡◌, ◌≢◌, ◌↔◌, ◌⊎◌, inl, inr, List, [], ◌∷◌, ℕ, Contains, Option, Some, None, refl, subst, codes}
use Rattle.std.specs.Option.{option_and_then}
use Rattle.plan_items.specs.Parts.{IsReading}
use Rattle.serde_json.specs.Data.{Data}
use Rattle.serde_json.specs.Find.{get, as_object, as_str}
use Rattle.request_json.specs.Counted.{IsReportVerb}
use Rattle.request_json.specs.Members.{IsJsonOf, member_count}
use Rattle.request_json.specs.ReportFaults.{report_members, HasOthersInReport, IsFaultOfTwo, IsReportFault, IsReportFaultOfKind, IsReportFaultOfObject, IsReportFaultOfValue, IsReportOfKind}
use Rattle.request_json.specs.RequestFaults.{IsVerbOf}
use Rattle.request_json.specs.declared.faults.kinds.MemberName.TheVariants as name
use Rattle.request_json.specs.declared.faults.kinds.RequestKind.{RequestKind}
use Rattle.request_json.specs.declared.faults.finding.RequestFault.{RequestFault}
use Rattle.request_json.specs.declared.faults.finding.RequestFault.TheVariants as fault
use Rattle.request_json.proofs.RequestFaultLaws.{contains_one, one_kind, then_told}
use Rattle.request_json.proofs.Texts.{text_there}

-- ---- the kind of a report's `do`
pub report_kind_read : (d : Data) (t : List ℕ) (r : Option RequestKind) → Some t ≡ option_and_then as_str (get (codes "do") d) → IsReportVerb t → IsReading (λ k. IsVerbOf k t) r → IsReading (IsReportOfKind d) r
report_kind_read d t None e verb none = λ k h. let here = text_there (get (codes "do") d) t e in let same : h.0 ≡ t = cc (h.1, here) in none k (subst (IsVerbOf k) same h.3)
report_kind_read d t (Some k) e verb is = (t, text_there (get (codes "do") d) t e, verb, is)

pub no_report_do : (d : Data) (t : List ℕ) → Some t ≡ option_and_then as_str (get (codes "do") d) → ¬ IsReportVerb t → (k : RequestKind) → ¬ IsReportOfKind d k
no_report_do d t e other k h = let here = text_there (get (codes "do") d) t e in let same : h.0 ≡ t = cc (h.1, here) in other (subst IsReportVerb same h.2)

pub no_do : (d : Data) → None ≡ option_and_then as_str (get (codes "do") d) → (k : RequestKind) → ¬ IsReportOfKind d k
no_do d none k h = absurd (cc (rw h.1 at none))

one_report_kind : (d : Data) (k l : RequestKind) → IsReportOfKind d k → IsReportOfKind d l → k ≡ l
one_report_kind d k l v w =
    let same : w.0 ≡ v.0 = cc (v.1, w.1) in
    one_kind k l v.0 v.3 (subst (IsVerbOf l) same w.3)

-- ---- other members
pub no_report_others_is : (d : Data) (k : RequestKind) → member_count d ≡ Some (report_members d k) → (f : RequestFault) → (None ≡ Some f) ↔ HasOthersInReport d k f
no_report_others_is d k size f = (λ s. absurd (cc s), λ h. absurd (back f h))
  where
    back : (g : RequestFault) → ¬ HasOthersInReport d k g
    back fault.OthersInReport h = h size
    back _ h = h

pub report_others_is : (d : Data) (k : RequestKind) → member_count d ≢ Some (report_members d k) → (f : RequestFault) → (Some fault.OthersInReport ≡ Some f) ↔ HasOthersInReport d k f
report_others_is d k more f = (λ s. let same : fault.OthersInReport ≡ f = cc s in subst (HasOthersInReport d k) same more, back f)
  where
    back : (g : RequestFault) → HasOthersInReport d k g → Some fault.OthersInReport ≡ Some g
    back fault.OthersInReport h = refl
    back _ h = absurd h

-- ---- an object, where its `do` is a report's, and where it isn't
pub report_told : {O A B C : Type 0} (d : Data) (k : RequestKind) (f : RequestFault) → IsReportOfKind d k → ¬ O → A ↔ (O ⊎ IsFaultOfTwo d name.Tracker name.Number f) → B ↔ (A ⊎ IsFaultOfTwo d name.At name.ReportDo f)
    → C ↔ (B ⊎ IsReportFaultOfKind d k f) → C ↔ IsReportFaultOfObject d f
report_told d k f known none a b c =
    let all = then_told a (then_told b c) in (
      λ h. elim (all.0 h) [ inl o ↦ absurd (none o) | inr (inl x) ↦ inl x | inr (inr (inl y)) ↦ inr (inl y) | inr (inr (inr z)) ↦ inr (inr (k, known, z)) ],
      λ h. elim h [
        | inl x ↦ all.1 (inr (inl x))
        | inr (inl y) ↦ all.1 (inr (inr (inl y)))
        | inr (inr z) ↦ let same = one_report_kind d z.0 k z.1 known in all.1 (inr (inr (inr (subst (λ l. IsReportFaultOfKind d l f) same z.2))))
      ],
    )

pub unknown_told : {O A B : Type 0} (d : Data) (f : RequestFault) → ((k : RequestKind) → ¬ IsReportOfKind d k) → ¬ O → A ↔ (O ⊎ IsFaultOfTwo d name.Tracker name.Number f) → B ↔ (A ⊎ IsFaultOfTwo d name.At name.ReportDo f)
    → B ↔ IsReportFaultOfObject d f
unknown_told d f unknown none a b =
    let all = then_told a b in (
      λ h. elim (all.0 h) [ inl o ↦ absurd (none o) | inr (inl x) ↦ inl x | inr (inr y) ↦ inr (inl y) ],
      λ h. elim h [ inl x ↦ all.1 (inr (inl x)) | inr (inl y) ↦ all.1 (inr (inr y)) | inr (inr z) ↦ absurd (unknown z.0 z.1) ],
    )

-- ---- values
pub no_object_report : (d : Data) → as_object d ≡ None → (f : RequestFault) → Contains (fault.NoObject ∷ []) f ↔ IsReportFaultOfValue d f
no_object_report d is f = (λ h. subst (IsReportFaultOfValue d) ((contains_one fault.NoObject f).0 h) is, λ h. (contains_one fault.NoObject f).1 (back f h))
  where
    back : (g : RequestFault) → IsReportFaultOfValue d g → fault.NoObject ≡ g
    back fault.NoObject h = refl
    back _ h = absurd (h.0 is)

no_object_of_object : (d : Data) → ¬ IsReportFaultOfObject d fault.NoObject
no_object_of_object d (inl (inl h)) = h
no_object_of_object d (inl (inr h)) = h
no_object_of_object d (inr (inl (inl h))) = h
no_object_of_object d (inr (inl (inr h))) = h
no_object_of_object d (inr (inr (k, asked, inl h))) = h.2
no_object_of_object d (inr (inr (k, asked, inr (inl h)))) = h.2
no_object_of_object d (inr (inr (k, asked, inr (inr h)))) = h

of_value : (d : Data) → as_object d ≢ None → (f : RequestFault) → IsReportFaultOfObject d f ↔ IsReportFaultOfValue d f
of_value d there fault.NoObject = (λ h. absurd (no_object_of_object d h), λ h. absurd (there h))
of_value d there _ = (λ h. (there, h), λ h. h.1)

pub report_object_told : (d : Data) → as_object d ≢ None → (v : List RequestFault) → ((f : RequestFault) → Contains v f ↔ IsReportFaultOfObject d f) → (f : RequestFault) → Contains v f ↔ IsReportFaultOfValue d f
report_object_told d there v told f = let same = of_value d there f in (λ h. same.0 ((told f).0 h), λ h. (told f).1 (same.1 h))

-- ---- texts
pub no_json_report : (body : List ℕ) → ((d : Data) → ¬ IsJsonOf body d) → (f : RequestFault) → Contains (fault.NoJson ∷ []) f ↔ IsReportFault body f
no_json_report body none f = (λ h. subst (IsReportFault body) ((contains_one fault.NoJson f).0 h) none, λ h. (contains_one fault.NoJson f).1 (back f h))
  where
    back : (g : RequestFault) → IsReportFault body g → fault.NoJson ≡ g
    back fault.NoJson h = refl
    back _ h = absurd (none h.0 h.1)

module _ (body : List ℕ) (d : Data) (json : IsJsonOf body d) where
  one_value_of : (e : Data) → IsJsonOf body e → e ≡ d
  one_value_of e other = cc (json.1, other.1)

  no_json_of_value : ¬ IsReportFaultOfValue d fault.NoJson
  no_json_of_value (there, inl (inl h)) = h
  no_json_of_value (there, inl (inr h)) = h
  no_json_of_value (there, inr (inl (inl h))) = h
  no_json_of_value (there, inr (inl (inr h))) = h
  no_json_of_value (there, inr (inr (k, asked, inl h))) = h.2
  no_json_of_value (there, inr (inr (k, asked, inr (inl h)))) = h.2
  no_json_of_value (there, inr (inr (k, asked, inr (inr h)))) = h

  of_text : (f : RequestFault) → IsReportFaultOfValue d f ↔ IsReportFault body f
  of_text fault.NoJson = (λ h. absurd (no_json_of_value h), λ h. absurd (h d json))
  of_text f = (λ h. (d, json, h), λ h. subst (λ e. IsReportFaultOfValue e f) (one_value_of h.0 h.1) h.2)

  pub report_value_told : (v : List RequestFault) → ((f : RequestFault) → Contains v f ↔ IsReportFaultOfValue d f) → (f : RequestFault) → Contains v f ↔ IsReportFault body f
  report_value_told v told f = let same = of_text f in (λ h. same.0 ((told f).0 h), λ h. (told f).1 (same.1 h))
