use Rattle.hph_leb.proofs.signed.+read_signed.Given as goal

-- each byte spells seven bits
abbrev pub decreases-read_signed : goal.decreases-read_signed
decreases-read_signed l = l.bits
