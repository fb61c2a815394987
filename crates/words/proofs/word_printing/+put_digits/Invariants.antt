-- `word_printing::put_digits` ends. Assumes nothing.
use Rattle.words.proofs.word_printing.+put_digits.Given as goal

abbrev pub decreases-put_digits : goal.decreases-put_digits
decreases-put_digits g l = l.places
