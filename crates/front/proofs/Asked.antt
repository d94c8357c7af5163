-- Words that `bec_node::run` knows ask for nothing that looks at a store or brings updates into a directory.
use Rattle.std.proofs.Common.{◌≡◌, inl, inr, List, None, Option, String, map}
use Rattle.std.specs.declared.alloc.Global.{Global}
use Rattle.std.specs.String.{string_bytes}
use Rattle.bec_node.specs.Families.{BesideText, IsBesideCommand, of_audits, of_seals, of_views, of_worlds}
use Rattle.clap.specs.Words.{Text}
use Rattle.command_words.specs.AuditRequests.{AsksAudit, AuditText}
use Rattle.command_words.specs.NetRequests.{AsksNet, NetText}
use Rattle.command_words.specs.Requests.{Asks, RequestText}
use Rattle.command_words.specs.SealRequests.{AsksSeal, SealText}
use Rattle.command_words.specs.WatchRequests.{AsksWatch, WatchText}
use Rattle.command_words.specs.WorldRequests.{AsksWorld, WorldText}
use Rattle.front.specs.Front.{IsRunCommand}

-- a kind of request that no words ask for which ask for one of these, where this tells what they ask for of it
pub record NothingBeside {A : Type 0} (asked : List Text → Option A) : Type 0 where
  pub alone : (words : List Text) (request : RequestText) → Asks words request → asked words ≡ None
  pub over_net : (words : List Text) (request : NetText) → AsksNet words request → asked words ≡ None
  pub sealed : (words : List Text) (request : SealText) → AsksSeal words request → asked words ≡ None
  pub watched : (words : List Text) (request : WatchText) → AsksWatch words request → asked words ≡ None
  pub audited : (words : List Text) (request : AuditText) → AsksAudit words request → asked words ≡ None
  pub of_worlds : (words : List Text) (request : WorldText) → AsksWorld words request → asked words ≡ None

module _ {A : Type 0} (asked : List Text → Option A) (law : NothingBeside asked) (words : List (String Global)) where
  of_family : (request : BesideText) → IsBesideCommand request words → asked (map string_bytes words) ≡ None
  of_family (of_seals request) asks = law.sealed (map string_bytes words) request asks
  of_family (of_audits request) asks = law.audited (map string_bytes words) request asks
  of_family (of_views request) asks = law.watched (map string_bytes words) request asks
  of_family (of_worlds request) asks = law.of_worlds (map string_bytes words) request asks

  pub known_unasked : IsRunCommand words → asked (map string_bytes words) ≡ None
  known_unasked (inl (request, asks)) = law.over_net (map string_bytes words) request asks
  known_unasked (inr (inl (request, asks))) = of_family request asks
  known_unasked (inr (inr (request, asks))) = law.alone (map string_bytes words) request asks
