-- What a contract sees of a request.
use Rattle.std.specs.Prelude.{option_map}
use Rattle.command_words.specs.AuditRequests.{AuditText, audit, confirm}
use Rattle.command_words.specs.ImportRequests.{ImportText, CloneBundle, CloneStore, Import}
use Rattle.command_words.specs.LookRequests.{ListingText, LookText, NamedText, QuestionText, Both, Csv, KeyOf, Log, One, Page, Picture, Records, Schema, Show, Status, Updates, Who}
use Rattle.command_words.specs.Requests.{RequestText, heads, check, dump, init, keygen, apply, join, export, query, merge, notes}
use Rattle.command_words.specs.NetRequests.{NetText, sync, serve}
use Rattle.command_words.specs.SealRequests.{SealText, hsskey, seal, unseal}
use Rattle.command_words.specs.WatchRequests.{WatchText, watch}
use Rattle.command_words.specs.WorldRequests.{WorldText, demo, world}
use Rattle.command_words.specs.declared.audit_request.AuditRequest.{AuditRequest}
use Rattle.command_words.specs.declared.audit_request.AuditRequest.TheVariants.{Audit, Confirm}
use Rattle.command_words.specs.declared.import_request.ImportRequest.{ImportRequest}
use Rattle.command_words.specs.declared.import_request.ImportRequest.TheVariants as bringing
use Rattle.command_words.specs.declared.look_request.Listing.{Listing}
use Rattle.command_words.specs.declared.look_request.Listing.TheVariants as listing
use Rattle.command_words.specs.declared.look_request.LookRequest.{LookRequest}
use Rattle.command_words.specs.declared.look_request.LookRequest.TheVariants as look
use Rattle.command_words.specs.declared.look_request.Question.{Question}
use Rattle.command_words.specs.declared.look_request.Question.TheVariants as question
use Rattle.command_words.specs.declared.look_requests.Named.{Named}
use Rattle.command_words.specs.declared.request.Request.{Request}
use Rattle.command_words.specs.declared.request.Request.TheVariants.{Heads, Check, Dump, Init, Keygen, Apply, Join, Export, Query, Merge, Notes}
use Rattle.command_words.specs.declared.net_request.NetRequest.{NetRequest}
use Rattle.command_words.specs.declared.net_request.NetRequest.TheVariants.{Sync, Serve}
use Rattle.command_words.specs.declared.seal_request.SealRequest.{SealRequest}
use Rattle.command_words.specs.declared.seal_request.SealRequest.TheVariants.{Hsskey, Seal, Unseal}
use Rattle.command_words.specs.declared.watch_request.WatchRequest.{WatchRequest}
use Rattle.command_words.specs.declared.world_request.WorldRequest.{WorldRequest}
use Rattle.command_words.specs.declared.world_request.WorldRequest.TheVariants.{Demo, World}

abbrev pub request_seen : Request → RequestText
request_seen (Heads directory) = heads (option_map (λ d. d.now) directory)
request_seen Check = check
request_seen (Dump directory json) = dump (option_map (λ d. d.now) directory) json
request_seen (Init directory) = init directory.now
request_seen (Keygen directory height width) = keygen directory.now height width
request_seen (Apply directory note) = apply directory.now (option_map (λ n. n.now) note)
request_seen (Join directory) = join directory.now
request_seen (Export directory updates) = export directory.now updates
request_seen (Query directory text json) = query directory.now text.now json
request_seen (Merge first second) = merge first.now second.now
request_seen (Notes directory) = notes directory.now

-- the same of one that needs a net
abbrev pub net_seen : NetRequest → NetText
net_seen (Sync directory address) = sync directory.now address.now
net_seen (Serve directory address sessions) = serve directory.now address.now sessions

-- of one about seals
abbrev pub seal_seen : SealRequest → SealText
seal_seen (Hsskey directory height width) = hsskey directory.now height width
seal_seen (Seal directory) = seal directory.now
seal_seen (Unseal key signature) = unseal key signature.items

-- of one to watch a query
abbrev pub watch_seen : WatchRequest → WatchText
watch_seen request = watch request.directory.now request.text.now request.every

-- of one about keys that signed twice
abbrev pub audit_seen : AuditRequest → AuditText
audit_seen (Audit directory) = audit directory.now
audit_seen Confirm = confirm

-- of one about worlds
abbrev pub world_seen : WorldRequest → WorldText
world_seen (World audited) = world audited
world_seen (Demo number count) = demo number count

-- of what one asks of updates that looks at a store
abbrev pub listing_seen : Listing → ListingText
listing_seen (listing.Picture dot) = Picture dot
listing_seen (listing.Log rows full json) = Log rows full json
listing_seen (listing.Show id full json) = Show id.now full json
listing_seen (listing.Who row full json) = Who row.now full json

-- of what it asks of a store
abbrev pub question_seen : Question → QuestionText
question_seen (question.Updates updates) = Updates (listing_seen updates)
question_seen question.Page = Page
question_seen question.Status = Status
question_seen question.Schema = Schema
question_seen question.Records = Records
question_seen (question.Csv text) = Csv text.now

-- and of one that looks at a store
abbrev pub look_seen : LookRequest → LookText
look_seen (look.One directory asked) = One (option_map (λ d. d.now) directory) (question_seen asked)
look_seen (look.Both first second full json) = Both (option_map (λ d. d.now) first) (option_map (λ d. d.now) second) full json
look_seen (look.Key directory) = KeyOf directory.now

-- and of one that brings updates into a directory
abbrev pub import_seen : ImportRequest → ImportText
import_seen (bringing.Import directory) = Import directory.now
import_seen (bringing.CloneBundle directory) = CloneBundle directory.now
import_seen (bringing.CloneStore from directory) = CloneStore from.now directory.now

-- what the words of `show`, `who` and `diff` give
abbrev pub named_seen : Named → NamedText
named_seen named = record { directory = named.directory.now; name = named.name.now; full = named.full; json = named.json }
