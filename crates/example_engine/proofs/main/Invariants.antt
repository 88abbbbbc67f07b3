use Rattle.example_engine.proofs.main.Given as goal

abbrev pub ghosts-run-N-Ledger : goal.ghosts-run-N-Ledger
ghosts-run-N-Ledger g a = record { name = a.unnamed.name; parts = a.unnamed.callers }

abbrev pub ghosts-run-N-Name : goal.ghosts-run-N-Name
ghosts-run-N-Name g a = record { layout = a.unnamed.layout; bank = a.unnamed.bank }
