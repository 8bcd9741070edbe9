-- The status in a message of PJL's unsolicited or requested status: its first line names the subject, and the second has the value.
use Rattle.std.specs.Prelude.{ℕ, ◌||◌, if◌then◌else◌, List, ◌∷◌, take, drop, Option, Some, None, codes}
use Rattle.std.specs.Str.{bytes_eq}
use Rattle.std.specs.Str.Lines.{strip_carriage_return}
use Rattle.text.specs.Digits.{number_up_to}
use Rattle.text.specs.Parts.{texts_of}
use Rattle.adapter_core.specs.declared.pjl_status.PjlStatus.{PjlStatus}
use Rattle.adapter_core.specs.declared.pjl_status.PjlStatus.TheVariants.{Page, JobEnded, Device, Other}

abbrev pub bare : List ℕ → List ℕ
bare line = strip_carriage_return line

abbrev pub number_in : List ℕ → Option ℕ
number_in word = number_up_to 2147483647 word

-- the code of a line such as CODE=10001
unfoldable pub code_in : List ℕ → Option ℕ
code_in line = if bytes_eq (take 5 line) (codes "CODE=") then number_in (drop 5 line) else None

abbrev pub page_of : Option ℕ → PjlStatus
page_of None = Other
page_of (Some page) = Page page

abbrev pub device_of : Option ℕ → PjlStatus
device_of None = Other
device_of (Some code) = Device code

abbrev pub page_status : List ℕ → PjlStatus
page_status line = page_of (number_in line)

unfoldable pub job_status : List ℕ → PjlStatus
job_status line = if bytes_eq line (codes "END") then JobEnded else Other

abbrev pub device_status : List ℕ → PjlStatus
device_status line = device_of (code_in line)

unfoldable pub status_of : List ℕ → List ℕ → PjlStatus
status_of first second =
    if bytes_eq first (codes "@PJL USTATUS PAGE") then page_status second
    else if bytes_eq first (codes "@PJL USTATUS JOB") then job_status second
    else if bytes_eq first (codes "@PJL USTATUS DEVICE") || bytes_eq first (codes "@PJL INFO STATUS") then device_status second
    else Other

abbrev pub lines_status : List (List ℕ) → PjlStatus
lines_status (first ∷ second ∷ more) = status_of (bare first) (bare second)
lines_status lines = Other

-- the status in a message, without its form feed
abbrev pub status_in : List ℕ → PjlStatus
status_in message = lines_status (texts_of message)
