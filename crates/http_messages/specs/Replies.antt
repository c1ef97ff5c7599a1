-- The bytes of a reply.
use Rattle.std.specs.Prelude.{ℕ, List, [], ◌∷◌, ◌++◌, length, codes, decimal, Option, Some, None}
use Rattle.http_messages.specs.declared.statuses.Method.{Method}
use Rattle.http_messages.specs.declared.statuses.Status.{Status}
use Rattle.http_messages.specs.declared.statuses.Status.TheVariants as status
use Rattle.http_messages.specs.Statuses.{method_text, code_of, phrase_of, allowed_by}

-- a line with its end, CR LF
abbrev pub line : List ℕ → List ℕ
line text = text ++ 13 ∷ 10 ∷ []

-- the line that tells the method which a path takes, if one is to be told
abbrev pub allow_line : Option Method → List ℕ
allow_line (Some method) = line (codes "Allow: " ++ method_text method)
allow_line None = []

-- a whole reply: the status line, the fields in this order, an empty line, the body, which is of this type
abbrev pub typed_reply : List ℕ → Status → List ℕ → List ℕ
typed_reply media status body =
    line (codes "HTTP/1.1 " ++ decimal (code_of status) ++ codes " " ++ phrase_of status)
    ++ line (codes "Content-Type: " ++ media)
    ++ line (codes "Content-Length: " ++ decimal (length body))
    ++ line (codes "Connection: close")
    ++ allow_line (allowed_by status)
    ++ line []
    ++ body

-- a reply whose body is JSON
abbrev pub reply : Status → List ℕ → List ℕ
reply status body = typed_reply (codes "application/json") status body

-- a reply whose body is text
abbrev pub text_reply : List ℕ → List ℕ
text_reply body = typed_reply (codes "text/plain; charset=utf-8") status.Success body

-- a reply whose body is a page of a browser
abbrev pub page_reply : Status → List ℕ → List ℕ
page_reply status body = typed_reply (codes "text/html; charset=utf-8") status body
