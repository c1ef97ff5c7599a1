-- The line of an answer, written out.
use Rattle.std.proofs.Common.{◌≡◌, ◌∙◌, ap, sym, ℕ, List, ◌++◌, codes, append_assoc}
use Rattle.std.specs.Fmt.{decimal}
use Rattle.json.specs.Print.{escape_byte}
use Rattle.serde_json.specs.Data.{Data}
use Rattle.serde_json.specs.Written.{compact_text}
use Rattle.desk_journal.specs.Lines.{answer_data, line_of}

-- its parts one after another
joined : (reply digits : List ℕ) → (codes "{\"reply\":" ++ reply) ++ (codes ",\"status\":" ++ (digits ++ codes "}\n")) ≡ codes "{\"reply\":" ++ ((reply ++ (codes ",\"status\":" ++ (digits ++ codes "}"))) ++ codes "\n")
joined reply digits = simp append_assoc

pub line_told : (reply : Data) (status : ℕ) → (codes "{\"reply\":" ++ compact_text reply) ++ (codes ",\"status\":" ++ (decimal status ++ codes "}\n")) ≡ line_of (answer_data reply status)
unfolding escape_byte
line_told reply status = joined (compact_text reply) (decimal status)
