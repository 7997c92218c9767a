-- The headers that the code reads and writes, as values of the definitions.
use Rattle.kfs_entry.specs.declared.codec.headers.LogHeader.{LogHeader as CodeLogHeader}
use Rattle.kfs_entry.specs.declared.codec.headers.PlanHeader.{PlanHeader as CodePlanHeader}
use Rattle.kfs_model.specs.Spelling.{LogHeader, PlanHeader}

abbrev pub log_header_of : CodeLogHeader → LogHeader
log_header_of h = record { version = h.version; client = h.client; count = h.entries }

abbrev pub plan_header_of : CodePlanHeader → PlanHeader
plan_header_of h = record { version = h.version; names = h.names; nodes = h.nodes; pieces = h.pieces }
