-- `word_printing::places` ends. Assumes nothing.
use Rattle.words.proofs.word_printing.+places.Given as goal

abbrev pub decreases-places : goal.decreases-places
decreases-places l = l.n
