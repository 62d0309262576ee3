-- What the status register of set 0001 says.
use Rattle.std.specs.Prelude.{◌==◌, ℕ, not, bit_and, if◌then◌else◌}
use Rattle.nor_poll.specs.declared.watch.Seen.{Seen}
use Rattle.nor_poll.specs.declared.watch.Seen.TheVariants.{Working, Ready, Suspended, Broken}
use Rattle.nor_poll.specs.declared.watch.Broke.TheVariants.{Erase, Program}

-- bit 7: ready; bit 6: an erase is suspended; bit 5: an erase broke off; bit 4: a program did
abbrev pub status_says : ℕ → Seen
status_says status =
    if bit_and status 0x80 == 0 then Working
    else if not (bit_and status 0x20 == 0) then Broken Erase
    else if not (bit_and status 0x10 == 0) then Broken Program
    else if not (bit_and status 0x40 == 0) then Suspended
    else Ready

-- what a poll in an erase looks at: all but bit 4
abbrev pub heeded : ℕ → ℕ
heeded status = bit_and status 0xEF
