-- The names by which the system opens the file of a stream anew. Definitions only. Assumes nothing.
use Rattle.std.specs.Prelude.{List, ℕ, codes}
use Rattle.ports.specs.declared.standing.Stream.{Stream}
use Rattle.ports.specs.declared.standing.Stream.TheVariants.{Input, Output, Status}

abbrev pub name_of : Stream → List ℕ
name_of Input = codes "/proc/self/fd/0"
name_of Output = codes "/proc/self/fd/1"
name_of Status = codes "/proc/self/fd/3"
