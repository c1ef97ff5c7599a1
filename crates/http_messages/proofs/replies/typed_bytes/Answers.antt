use Rattle.std.proofs.Common.{◌≡◌, ℕ, List, ◌++◌, [], ◌∷◌, codes, append_assoc, sym, length}
use Rattle.std.specs.Fmt.{decimal}
use Rattle.http_messages.specs.Replies.{allow_line}
use Rattle.http_messages.specs.Statuses.{code_of, phrase_of, allowed_by}
use Rattle.http_messages.proofs.replies.typed_bytes.Goals as goal

-- the parts of a reply one after another
joined : (version code space phrase end type_is type length_is length close allow body : List ℕ)
    → (((version ++ code ++ space ++ phrase) ++ end) ++ ((type_is ++ type) ++ end) ++ ((length_is ++ length) ++ end) ++ (close ++ end) ++ allow ++ end ++ body)
    ≡ version ++ (code ++ (space ++ (phrase ++ (end ++ (type_is ++ (type ++ (end ++ (length_is ++ (length ++ (end ++ (close ++ (end ++ (allow ++ (end ++ body))))))))))))))
joined version code space phrase end type_is type length_is length close allow body = simp append_assoc

pub returns : goal.returns
returns c =
    let status = c.args.status in
    let body = c.args.body.now in
    simp (c.in_ok-extend_from_slice.ensures.items, c.into_bytes-bytes.ensures.value, c.in_ok-head.ensures.ok, c.code-code.ensures, c.phrase-phrase.ensures, c.allow_line-allow.ensures, append_assoc)
    (sym (joined (codes "HTTP/1.1 ") (decimal (code_of status)) (codes " ") (phrase_of status) (13 ∷ 10 ∷ []) (codes "Content-Type: ") c.args.media.now
    (codes "Content-Length: ") (decimal (length body)) (codes "Connection: close") (allow_line (allowed_by status)) body))
