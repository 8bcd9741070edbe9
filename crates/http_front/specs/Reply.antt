-- The heads of replies (RFC 9112, section 4; RFC 9110, section 15). A reply of 200 has a body. A refusal has no body and closes the connection.
use Rattle.std.specs.Prelude.{ℕ, ◌≡◌, ◌==◌, ◌++◌, ◌⊎◌, if◌then◌else◌, Bool, true, false, List, [], codes, decimal, unwrap_or}
use Rattle.http.specs.StatusCode.{code_digits, reason_phrase}
use Rattle.http_front.specs.declared.refusal.HttpRejection.{HttpRejection}
use Rattle.http_front.specs.declared.refusal.HttpRejection.TheVariants.{BadRequest, MethodNotAllowed, ContentTooLarge, UnsupportedMediaType, ExpectationFailed, HeadTooLarge, NotImplemented}

-- the status of a refusal
abbrev pub status_of : HttpRejection → ℕ
status_of BadRequest = 400
status_of MethodNotAllowed = 405
status_of ContentTooLarge = 413
status_of UnsupportedMediaType = 415
status_of ExpectationFailed = 417
status_of HeadTooLarge = 431
status_of NotImplemented = 501

-- the status is 200, or that of a refusal
abbrev pub IsReplyStatus : ℕ → Type 0
IsReplyStatus status = (status ≡ 200) ⊎ ((refusal : HttpRejection) × (status ≡ status_of refusal))

-- the reason phrase of a status: RFC 9110's for 413 (section 15.5.14), for which the library has an older one
abbrev pub phrase : ℕ → List ℕ
phrase status = if status == 413 then codes "Content Too Large" else unwrap_or (reason_phrase status) []

abbrev pub status_line : ℕ → List ℕ
status_line status = codes "HTTP/1.1 " ++ (code_digits status ++ (codes " " ++ (phrase status ++ codes "\r\n")))

-- the field that only replies of this status have
abbrev pub own_field : ℕ → List ℕ
own_field status =
    if status == 200 then codes "Content-Type: application/ipp\r\n"
    else if status == 405 then codes "Allow: POST\r\n"
    else []

-- the head's bytes before the length
abbrev pub opening : ℕ → List ℕ
opening status = status_line status ++ (own_field status ++ codes "Content-Length: ")

-- the head's bytes after the length
abbrev pub ending : Bool → List ℕ
ending true = codes "\r\nConnection: close\r\n\r\n"
ending false = codes "\r\n\r\n"

-- the head of a reply of a status with a body of a length
abbrev pub head : ℕ → ℕ → Bool → List ℕ
head status length closes = opening status ++ (decimal length ++ ending closes)

-- the interim head that asks a client to send the body (RFC 9110, section 15.2.1)
abbrev pub continue_head : List ℕ
continue_head = codes "HTTP/1.1 100 Continue\r\n\r\n"
