-- Affected users, and what follows them. Assumes nothing.
use native.Mathlib.Omega.{arith}
use Rattle.walk.proofs.Following.{behind_finds}
use Rattle.walk.proofs.ahead.behind_type.Goals as goal

pub rest_ahead-requires : goal.rest_ahead-requires
rest_ahead-requires c = (omega (arith, c.users_ahead-users.ensures.near), c.form_of-form.ensures)

pub returns : goal.returns
returns c =
    behind_finds _ (rw c.form_of-form.ensures at c.users_ahead-users.ensures) c.rest_ahead.ensures
