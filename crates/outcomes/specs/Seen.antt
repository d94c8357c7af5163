-- What clauses see of what stands outside of a run, by the members of its objects' traits.
use Rattle.std.specs.Prelude.{ℕ, List, Option}
use Rattle.bec_disk.specs.Shelf.{ShelfState}
use Rattle.rand_core.specs.Stream.{Stream}
use Rattle.schema_verdict.specs.Written.{SinkState}
use Rattle.outcomes.specs.Outside.{Outside, outside}
use Rattle.outcomes.specs.declared.outside.Outside.{Outside as Objects}

-- The source, the shelf and the generator, by the members of `Source`, by those of `Shelf` and by the stream of the generator.
abbrev pub seen_outside : {S H R : Type 0} → record { faults : S → ℕ; left : S → Option (List ℕ) } → record { faults : H → ℕ; state : H → ShelfState } → (R → Stream) → Objects H R S
    → Outside S H R
seen_outside source shelf stream objects = outside source.left source.faults shelf.state shelf.faults stream objects.input objects.shelf objects.random

-- A sink, by the members of `Sink`.
abbrev pub seen_sink : {K : Type 0} → record { faults : K → ℕ; held : K → Option (List ℕ) } → K → SinkState
seen_sink members sink = record { held = members.held sink; faults = members.faults sink }
