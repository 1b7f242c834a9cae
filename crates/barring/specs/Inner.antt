-- What a private function gives: the ruling of a body that stands in an archive's bytes.
use Rattle.std.specs.Prelude.{List, ℕ, take, drop, Option}
use Rattle.bits.specs.Frame.{bytes_for}
use Rattle.reader.specs.Read.{found_in, read_is}
use Rattle.rules.specs.Rule.{ruling}
use Rattle.rules.specs.declared.Cause.{Cause}
use Rattle.rules.specs.declared.request.Request.{Request}
use Rattle.archive.specs.Reading.{home_of}

-- what the body of n bits at a place says of the call
abbrev pub ruling_of_body : List ℕ → ℕ → ℕ → Request → Option Cause
ruling_of_body b at n q = ruling (home_of b) (found_in (read_is (take (bytes_for n) (drop at b)) n)) q
