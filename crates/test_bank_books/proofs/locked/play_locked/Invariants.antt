use Rattle.test_bank_books.proofs.locked.play_locked.Given as goal

abbrev pub ghosts-play_named-N-Ledger : goal.ghosts-play_named-N-Ledger
ghosts-play_named-N-Ledger a = record { name = a.unnamed.name; parts = a.unnamed.callers }

abbrev pub ghosts-play_named-N-Name : goal.ghosts-play_named-N-Name
ghosts-play_named-N-Name a = record { layout = a.unnamed.layout; bank = a.unnamed.bank }
