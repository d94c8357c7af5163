-- What words that ask for something over a net ask for.
use Rattle.std.proofs.Common.{ℕ, List, [], append-nil, Option, None, Some, sym, arith}
use Rattle.std.specs.Io.KnownBytes.{Appends}
use Rattle.command_words.specs.NetRequests.{AsksNet, NetText, for_serve, for_sync}
use Rattle.bec_node.specs.Run.{AsksForSome}

pub asks_for_some : (words : List (List ℕ)) (request : NetText) → AsksNet words request → AsksForSome request
asks_for_some words request (for_sync directory address takes dir addr) = tt
asks_for_some words request (for_serve directory address sessions takes dir addr written one few) = omega (arith, one)

pub appends_none : (held : Option (List ℕ)) → Appends held held []
appends_none None = tt
appends_none (Some bytes) = sym (append-nil bytes)
