-- The numbers of statuses (RFC 8011, appendix B).
use Rattle.std.specs.Prelude.{ℕ}
use Rattle.events.specs.declared.status.Status.{Status}
use Rattle.events.specs.declared.status.Status.TheVariants as Is

abbrev pub code_of : Status → ℕ
code_of Is.Ok = 0x0000
code_of Is.OkIgnoredOrSubstituted = 0x0001
code_of Is.BadRequest = 0x0400
code_of Is.NotAuthorized = 0x0403
code_of Is.NotPossible = 0x0404
code_of Is.NotFound = 0x0406
code_of Is.TooLarge = 0x0408
code_of Is.FormatNotSupported = 0x040A
code_of Is.AttributesNotSupported = 0x040B
code_of Is.CharsetNotSupported = 0x040D
code_of Is.CompressionNotSupported = 0x040F
code_of Is.OperationNotSupported = 0x0501
code_of Is.VersionNotSupported = 0x0503
code_of Is.TemporaryError = 0x0505
code_of Is.Busy = 0x0507
