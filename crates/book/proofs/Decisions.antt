-- The two decisions by numbers, test by test: each law says what the decision is where the tests before it have passed.
-- Assumes nothing.
use Rattle.std.specs.Prelude.{Ok, Err}
use mathlib.Core.Path.{◌≡◌}
use mathlib.Core.Bool.{true, false}
use mathlib.Core.List.{List}
use Prim.Native.Nat.{ℕ, ◌+◌, ◌-◌, ◌*◌, ◌<◌, ◌≤◌}
use borrow.Author.Tests.{lt-ltb, le-ltb, lt-leb, le-leb}
use lib.Dec.{ltb}
use lib.ListN.{length}
use Rattle.book.specs.declared.Entering.TheVariants.{Replace, Insert}
use Rattle.book.specs.declared.Head.{Head}
use Rattle.book.specs.declared.Refusal.TheVariants.{TotalTooLarge, RecordsFull, SlotsFull, Damaged}
use Rattle.book.specs.Returns.{greatest_total, greatest_next}
use Rattle.book.specs.Enter.{replace_by, no_record, empty_slots, insert_by}

-- ---- a word that is held

module _ (total old n frequency : ℕ) where
  pub old_too_large : total < old → Err Damaged ≡ replace_by total old n frequency
  old_too_large h = rw (lt-ltb total old h)

  module _ (h : old ≤ total) where
    pub held_passes : greatest_total < total - old + frequency → Err TotalTooLarge ≡ replace_by total old n frequency
    held_passes g = rw (le-ltb total old h, lt-leb (total - old + frequency) greatest_total g)

    pub held_enters : (new : ℕ) → new ≡ total - old + frequency → total - old + frequency ≤ greatest_total → Ok (Replace n new) ≡ replace_by total old n frequency
    held_enters new e g = rw (e, le-ltb total old h, le-leb (total - old + frequency) greatest_total g)

-- ---- a new word

module _ (h : Head) (records : ℕ) (keys : List ℕ) (slots nodes frequency : ℕ) where
  pub total_passes : greatest_total < h.total + frequency → Err TotalTooLarge ≡ insert_by h records keys slots nodes frequency
  total_passes g = rw (lt-ltb greatest_total (h.total + frequency) g)

  module _ (a : h.total + frequency ≤ greatest_total) where
    pub records_taken : no_record h records ≡ true → Err RecordsFull ≡ insert_by h records keys slots nodes frequency
    records_taken g = rw (le-ltb greatest_total (h.total + frequency) a, g)

    module _ (b : no_record h records ≡ false) (n : ℕ) (long : length keys ≡ n) where
      pub slots_taken : n * 6 < (h.slots + slots) * 8 → Err SlotsFull ≡ insert_by h records keys slots nodes frequency
      slots_taken g =
          rw (le-ltb greatest_total (h.total + frequency) a, b, long, lt-ltb (n * 6) ((h.slots + slots) * 8) g)

      module _ (c : (h.slots + slots) * 8 ≤ n * 6) where
        pub slots_missing : ltb (empty_slots keys) slots ≡ true → Err Damaged ≡ insert_by h records keys slots nodes frequency
        slots_missing g =
            rw (le-ltb greatest_total (h.total + frequency) a, b, long, le-ltb (n * 6) ((h.slots + slots) * 8) c, g)

        module _ (d : ltb (empty_slots keys) slots ≡ false) where
          pub nodes_missing : greatest_next < h.next + nodes → Err Damaged ≡ insert_by h records keys slots nodes frequency
          nodes_missing g =
              rw (
                le-ltb greatest_total (h.total + frequency) a,
                b,
                long,
                le-ltb (n * 6) ((h.slots + slots) * 8) c,
                d,
                lt-ltb greatest_next (h.next + nodes) g,
              )

          pub new_enters : h.next + nodes ≤ greatest_next → Ok (Insert slots nodes (h.total + frequency)) ≡ insert_by h records keys slots nodes frequency
          new_enters g =
              rw (
                le-ltb greatest_total (h.total + frequency) a,
                b,
                long,
                le-ltb (n * 6) ((h.slots + slots) * 8) c,
                d,
                le-ltb greatest_next (h.next + nodes) g,
              )
