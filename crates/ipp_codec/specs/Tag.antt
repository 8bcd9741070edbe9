-- The tags of groups (RFC 8010, section 3.5.1) and of values (section 3.5.2) that the server reads and writes.
use Rattle.std.specs.Prelude.{ℕ}

abbrev pub operation_attributes : ℕ
operation_attributes = 0x01

abbrev pub job_attributes : ℕ
job_attributes = 0x02

abbrev pub printer_attributes : ℕ
printer_attributes = 0x04

abbrev pub unsupported_attributes : ℕ
unsupported_attributes = 0x05

abbrev pub unsupported : ℕ
unsupported = 0x10

abbrev pub no_value : ℕ
no_value = 0x13

abbrev pub integer : ℕ
integer = 0x21

abbrev pub boolean : ℕ
boolean = 0x22

abbrev pub enumeration : ℕ
enumeration = 0x23

abbrev pub range_of_integer : ℕ
range_of_integer = 0x33

abbrev pub text_with_language : ℕ
text_with_language = 0x35

abbrev pub name_with_language : ℕ
name_with_language = 0x36

abbrev pub text : ℕ
text = 0x41

abbrev pub name : ℕ
name = 0x42

abbrev pub keyword : ℕ
keyword = 0x44

abbrev pub uri : ℕ
uri = 0x45

abbrev pub charset : ℕ
charset = 0x47

abbrev pub natural_language : ℕ
natural_language = 0x48

abbrev pub mime_media_type : ℕ
mime_media_type = 0x49
