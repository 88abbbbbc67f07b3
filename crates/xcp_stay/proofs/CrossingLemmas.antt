-- Which of the parts of a server that stays may cross to another thread.
use denote.RattleType.{RattleType}
use denote.Ref.{NamedLft}
use denote.Param.Send.{AllSend, IsSend, IsSync, recorded_send, sendable, struct_send, view_send}
use denote.Struct.Declared as declared
use denote.Struct.Struct.{Struct}
use Rattle.std.proofs.Crossing.{crosses}
use Rattle.std.specs.declared.sync.ledger.Ledger as Ledger
use Rattle.relay.proofs.tray.Tray.TheSendSync as tray
use Rattle.xcp_locked.specs.declared.name.Name as Name
use Rattle.xcp_locked.proofs.caller.Caller.TheSendSync as caller
use Rattle.xcp_locked.proofs.chapter.Chapter.TheSendSync as chapter
use Rattle.xcp_locked.proofs.image.ImageBuffer.TheSendSync as image
use Rattle.xcp_locked.proofs.reader.Reader.TheSendSync as reader
use Rattle.xcp_locked.proofs.sheaf.Sheaf.TheSendSync as sheaf
use Rattle.xcp_seats.proofs.halt.Halt.TheSendSync as halt
use Rattle.xcp_seats.proofs.losses.Losses.TheSendSync as losses
use Rattle.xcp_seats.specs.contracts.ticker.Rested as Rested
use Rattle.xcp_seats.specs.contracts.ticker.Ticker.TheInside as TickerInside
use Rattle.xcp_seats.specs.contracts.ticker.Ticker as Ticker
use Rattle.xcp_service.proofs.seated.Shared.TheSendSync as shared
use Rattle.xcp_service.specs.declared.route.Route as Route
use Rattle.xcp_service.specs.contracts.parcel.Parcel as Parcel
use Rattle.xcp_service.specs.contracts.parcel.Parcel.TheInside as ParcelInside
use Rattle.xcp_service.specs.contracts.member.Member as Member
use Rattle.xcp_service.specs.contracts.member.Member.TheInside as MemberInside

-- a struct, as all its fields may
struct_crosses : (T : declared.Declared) → AllSend (declared.fields T) → IsSend (declared.row T)
struct_crosses T all = recorded_send (Struct (declared.shape T)) T.D T.to T.to_one (struct_send (declared.shape T) all)

-- what goes by a post
parcel_crosses : (N : RattleType) (g : Name.Ghosts N.Denot) (l : Ledger.Ghosts N.Denot) → IsSend (Parcel.the_row N g l)
parcel_crosses N g l = view_send (ParcelInside.the_row N g l) _ _ _ _ (struct_crosses (ParcelInside.the_type N g l) (search (sendable, crosses, chapter.the_send) depth 20, (search (sendable, crosses, sheaf.the_send) depth 20, (search (sendable, crosses) depth 20, tt))))

-- a member may cross to another thread
pub member_crosses : (N M : RattleType) (g : Name.Ghosts N.Denot) (l : Ledger.Ghosts N.Denot) (h : Route.Ghosts M.Denot) → IsSend (Member.the_row N M g l h)
member_crosses N M g l h =
    view_send (MemberInside.the_row N M g l h) _ _ _ _
    (struct_crosses (MemberInside.the_type N M g l h)
    (caller.the_send N g l, (search (sendable, crosses, tray.the_send, parcel_crosses) depth 20, (search sendable, (search (sendable, crosses) depth 20, tt)))))

-- a task, where its clock may be shared
pub ticker_crosses : (κ : NamedLft) (N M C : RattleType) (g : Name.Ghosts N.Denot) (l : Ledger.Ghosts N.Denot) (h : Route.Ghosts M.Denot) → IsSync C → IsSend (Ticker.the_row κ N M C g l h)
ticker_crosses κ N M C g l h c =
    view_send (TickerInside.the_row κ N M C g l h) _ _ _ _
    (struct_crosses (TickerInside.the_type κ N M C g l h)
    (search (sendable, crosses, shared.the_sync) depth 20, (search (sendable, crosses) depth 20, (search sendable, (member_crosses N M g l h, (reader.the_send N g l, (image.the_send N g l, (search (sendable, crosses) depth 20, (search (sendable, crosses, losses.the_sync) depth 20, (search (sendable, crosses, halt.the_sync) depth 20, tt))))))))))

-- and what comes of it
pub rested_crosses : (N M : RattleType) (g : Name.Ghosts N.Denot) (l : Ledger.Ghosts N.Denot) (h : Route.Ghosts M.Denot) → IsSend (Rested.the_row N M g l h)
rested_crosses N M g l h = struct_crosses (Rested.the_type N M g l h) (member_crosses N M g l h, (reader.the_send N g l, (search sendable, tt)))
