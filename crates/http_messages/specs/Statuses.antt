-- Methods and statuses, and how they are written.
use Rattle.std.specs.Prelude.{ℕ, List, codes, Option, Some, None}
use Rattle.http_messages.specs.declared.statuses.Method.{Method}
use Rattle.http_messages.specs.declared.statuses.Method.TheVariants as method
use Rattle.http_messages.specs.declared.statuses.Status.{Status}
use Rattle.http_messages.specs.declared.statuses.Status.TheVariants as status

-- how a method is written
abbrev pub method_text : Method → List ℕ
method_text method.Get = codes "GET"
method_text method.Post = codes "POST"

-- a status in three digits
abbrev pub code_of : Status → ℕ
code_of status.Success = 200
code_of status.BadRequest = 400
code_of status.Forbidden = 403
code_of status.NotFound = 404
code_of (status.MethodNotAllowed m) = 405
code_of status.Conflict = 409
code_of status.LengthRequired = 411
code_of status.PayloadTooLarge = 413
code_of status.UnprocessableEntity = 422
code_of status.NotImplemented = 501
code_of status.ServiceUnavailable = 503

-- the words beside it
abbrev pub phrase_of : Status → List ℕ
phrase_of status.Success = codes "OK"
phrase_of status.BadRequest = codes "Bad Request"
phrase_of status.Forbidden = codes "Forbidden"
phrase_of status.NotFound = codes "Not Found"
phrase_of (status.MethodNotAllowed m) = codes "Method Not Allowed"
phrase_of status.Conflict = codes "Conflict"
phrase_of status.LengthRequired = codes "Length Required"
phrase_of status.PayloadTooLarge = codes "Payload Too Large"
phrase_of status.UnprocessableEntity = codes "Unprocessable Entity"
phrase_of status.NotImplemented = codes "Not Implemented"
phrase_of status.ServiceUnavailable = codes "Service Unavailable"

-- the method that a reply of this status allows, if it tells one
abbrev pub allowed_by : Status → Option Method
allowed_by (status.MethodNotAllowed m) = Some m
allowed_by _ = None
