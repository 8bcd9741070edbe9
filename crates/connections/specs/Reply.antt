-- The bytes of replies over HTTP (RFC 9112).
use Rattle.std.specs.Prelude.{ℕ, Bool, true, List, ◌++◌, length}
use Rattle.http_front.specs.Reply.{head, status_of}
use Rattle.http_front.specs.declared.refusal.HttpRejection.{HttpRejection}

-- an IPP reply, with its head of HTTP
unfoldable pub http_reply : Bool → List ℕ → List ℕ
http_reply closes bytes = head 200 (length bytes) closes ++ bytes

-- the reply to a refused request
unfoldable pub refusal_head : HttpRejection → List ℕ
refusal_head refusal = head (status_of refusal) 0 true
