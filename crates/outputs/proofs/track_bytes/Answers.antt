-- `outputs::track_bytes` meets its contract: more than 64 bits are more than a head can tell.
use Rattle.std.proofs.Common.{◌*◌, ◌<◌, ◌≤◌, ap, Some, arith, lt-ltb, le-ltb}
use Rattle.outputs.specs.Tracks.{most_bytes, track_bytes}
use Rattle.outputs.proofs.track_bytes.Goals as goal

pub returns-in_err-bytes-clause-exact : goal.returns-in_err-bytes-clause-exact
unfolding track_bytes
returns-in_err-bytes-clause-exact c =
    let a = c.args in
    let more : most_bytes < a.frames * (2 * a.opening.channels) = omega (arith, c.in_err-bytes.ensures) in
    rw (c.from_residual.ensures, lt-ltb most_bytes (a.frames * (2 * a.opening.channels)) more)

pub returns-then-bytes-clause-exact : goal.returns-then-bytes-clause-exact
unfolding track_bytes
returns-then-bytes-clause-exact c =
    let a = c.args in
    let more : most_bytes < a.frames * (2 * a.opening.channels) = omega (arith, c.in_ok-bytes.ensures) in
    rw (lt-ltb most_bytes (a.frames * (2 * a.opening.channels)) more)

pub returns-clause-exact : goal.returns-clause-exact
unfolding track_bytes
returns-clause-exact c =
    let a = c.args in
    let within : a.frames * (2 * a.opening.channels) ≤ most_bytes = omega (arith, c.in_ok-bytes.ensures) in
    rw (le-ltb most_bytes (a.frames * (2 * a.opening.channels)) within) (ap Some c.in_ok-bytes.ensures.1)
