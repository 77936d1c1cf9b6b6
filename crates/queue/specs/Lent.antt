-- What a queue holds, and what joining and leaving make of it.
use Rattle.std.specs.Prelude.{◌≡◌, ℕ, ◌+◌, Bool, true, List, length, take, drop, slice_set}
use Rattle.std.specs.List.{remove}
use Rattle.trading.specs.Queues.{joined, in_order}
use Rattle.queue.specs.declared.queue.Queue.{Queue}

-- the records, from the front
abbrev pub listed : {R : Type 0} → Queue R → List R
listed q = take q.count q.records.now

-- how many records the table has room for
abbrev pub room : {R : Type 0} → Queue R → ℕ
room q = length q.records.now

-- b is on the table that a was on
pub record Kept {R : Type 0} (a b : Queue R) : Type 0 where
  pub room : length b.records.now ≡ length a.records.now
  pub lender : b.records.ghost_name ≡ a.records.ghost_name

-- r has joined: a became b
pub record Joined {R : Type 0} (ahead : R → R → Bool) (r : R) (a b : Queue R) : Type 0 where
  pub queue : listed b ≡ joined ahead r (listed a)
  pub order : in_order ahead (listed a) ≡ true → in_order ahead (listed b) ≡ true
  pub count : b.count ≡ a.count + 1
  pub beyond : drop b.count b.records.now ≡ drop b.count a.records.now
  pub kept : Kept a b

-- the record at i has left: a became b
pub record Left {R : Type 0} (ahead : R → R → Bool) (i : ℕ) (a b : Queue R) : Type 0 where
  pub queue : listed b ≡ remove (listed a) i
  pub order : in_order ahead (listed a) ≡ true → in_order ahead (listed b) ≡ true
  pub count : b.count + 1 ≡ a.count
  pub beyond : drop a.count b.records.now ≡ drop a.count a.records.now
  pub kept : Kept a b

-- r has taken the place of the record at i: a became b
pub record Replaced {R : Type 0} (i : ℕ) (r : R) (a b : Queue R) : Type 0 where
  pub queue : listed b ≡ slice_set (listed a) i r
  pub count : b.count ≡ a.count
  pub beyond : drop b.count b.records.now ≡ drop b.count a.records.now
  pub kept : Kept a b
