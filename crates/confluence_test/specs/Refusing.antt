-- What errors of reading become.
use Rattle.schema_text.specs.declared.fault.SchemaError.{SchemaError}
use Rattle.schema_text.specs.declared.fault.SchemaError.TheVariants as errors
use Rattle.confluence_test.specs.declared.refusal.SchemaRefusal.{SchemaRefusal}
use Rattle.confluence_test.specs.declared.refusal.SchemaRefusal.TheVariants.{Schema, Memory}

-- the refusal for an error of reading
abbrev pub from_reading : SchemaError → SchemaRefusal
from_reading (errors.Fault fault) = Schema fault
from_reading errors.Memory = Memory
