-- The calls of a wire, as contracts name them.
use Rattle.std.specs.Io.Slices.{io_slices_bytes}
use Rattle.wires.specs.Poll.{Poll, Accepts, Reads, Writes, Closes, bytes_read}
use Rattle.sockets.specs.declared.call_history.Call.{Call}
use Rattle.sockets.specs.declared.call_history.Call.TheVariants as call

abbrev pub poll_of : Call → Poll
poll_of (call.Accept door answer) = Accepts door answer
poll_of (call.Read id answer buffer) = Reads id (bytes_read answer buffer.now)
poll_of (call.Write id parts answer) = Writes id (io_slices_bytes parts.now) answer
poll_of (call.Close id) = Closes id
