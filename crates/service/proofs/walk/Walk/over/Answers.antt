-- `service::walk::Walk::over`: a list that was read is ended.
use Rattle.service.proofs.ReadList.{not_unended}
use Rattle.service.proofs.walk.Walk.over.Goals as goal

pub unreachable-requires : goal.unreachable-requires
unreachable-requires c = not_unended c.requires c.in_default.ensures
