-- A lane to a shared book may be sent to a thread, and so what chooses by it.
use denote.Param.Send.{IsSend, IsSync, sendable, recorded_send, shr_send, struct_send, view_send}
use denote.Ref.{NamedLft}
use denote.RattleType.{RattleType}
use denote.Struct.Declared
use Rattle.std.proofs.Crossing
use Rattle.std.proofs.hash.BuildHasherDefault.TheSendSync as Builders
use Rattle.std.proofs.hash.FoldHasher.TheSendSync as Hashers
use Rattle.std.proofs.sync.Mutex.TheSendSync as Locks
use Rattle.std.specs.contracts.sync.Mutex
use Rattle.lru.proofs.cache.LruCache.TheSendSync as Caches
use Rattle.rc_redraw.proofs.asking.Ask.TheSendSync as Asks
use Rattle.rc_redraw.specs.contracts.entry.Entry
use Rattle.rc_cache.proofs.mark.HashedAsk.TheSendSync as Marks
use Rattle.rc_cache.proofs.lanes.Lane.TheSendSync as Lanes
use Rattle.rc_cache.proofs.lanes.Sums.TheSendSync as Totals
use Rattle.rc_cache.specs.contracts.book.Book
use Rattle.rc_cache.specs.contracts.book.Book.TheInside as InBook
use Rattle.rc_cache.specs.contracts.calls.Call
use Rattle.rc_cache.specs.contracts.shared.SharedBook
use Rattle.rc_cache.specs.contracts.shared.SharedBook.TheInside as InMemo
use Rattle.rc_cache.specs.declared.naming.BookNaming
use Rattle.rc_rollout.specs.contracts.choices.Choices
use Rattle.rc_series.proofs.Threaded.{about_sync, about_send, code_sync, code_send, ground_send}

call_send : IsSend Call.the_row
call_send = search (about_sync, about_send, Asks.the_sync, Asks.the_send, Crossing.crosses, sendable) depth 20

entry_send : IsSend Entry.the_row
entry_send = search (about_sync, about_send, Asks.the_sync, Asks.the_send, Crossing.crosses, sendable) depth 20

module _ (N : RattleType) (g : BookNaming.Ghosts N.Denot) where
  -- the entries, the journal and the sums
  book_send : IsSend (Book.the_row N g)
  book_send =
      view_send (InBook.the_row N g) _ _ _ _
      (recorded_send (InBook.the_field N g).row _ _ (InBook.the_type N g).to_one
      (struct_send (Declared.shape (InBook.the_type N g)) (
        search (Caches.the_send, Builders.the_send, Hashers.the_send, Marks.the_send, Marks.the_sync, entry_send, Crossing.crosses, sendable) depth 30,
        (Crossing.Vec-send Call.the_row call_send, (Totals.the_field_send N g, tt)),
      )))

  -- the handle, the lock and the lane
  pub memo_send : (a : NamedLft) (R : RattleType) → IsSync R → IsSend (SharedBook.the_row a N R g)
  memo_send a R s =
      view_send (InMemo.the_row a N R g) _ _ _ _
      (recorded_send (InMemo.the_field a N R g).row _ _ (InMemo.the_type a N R g).to_one
      (struct_send (Declared.shape (InMemo.the_type a N R g))
      (shr_send _ _ R s, (shr_send _ _ (Mutex.the_row (Book.the_row N g)) (Locks.the_sync (Book.the_row N g) book_send), (Lanes.the_send N g, tt)))))

-- the code, what is kept from decision to decision, and what remembers
pub choices_send : (M : RattleType) → IsSend M → IsSend (Choices.the_row M)
choices_send M s =
    recorded_send (Choices.the_field M).row _ _ (Choices.the_type M).to_one
    (struct_send (Declared.shape (Choices.the_type M)) (
      search
          (code_sync, code_send, Crossing.crosses, sendable) depth 20,
      (ground_send, (s, tt)),
    ))
