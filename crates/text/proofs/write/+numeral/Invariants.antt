-- `numeral` calls itself with one digit less to come, which is the measure.
use Rattle.text.proofs.write.+numeral.Given as goal

abbrev pub decreases-numeral : goal.decreases-numeral
decreases-numeral l = l.more
