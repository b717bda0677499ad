use Rattle.mx_wire.specs.Routes.{table_rows}
use Rattle.mx_wire.proofs.routes.table_router.Goals as goal

pub returns-in-Ok : goal.returns-in-Ok
unfolding table_rows
returns-in-Ok c = c.in-Ok.ensures
