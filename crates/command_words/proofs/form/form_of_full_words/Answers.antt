use Rattle.command_words.proofs.Words.{full_four, full_five}
use Rattle.command_words.proofs.form.form_of_full_words.Goals as goal

pub returns-in-len4-clause-form : goal.returns-in-len4-clause-form
returns-in-len4-clause-form c =
    let four = full_four c.args.words.now _ _ c.in-len4.len_at_least c.in-len4.len_below c.command-item-then-words-lt5.is c.first-item.is in
    rw four (rw (← c.as_str-in-len4.ensures.value) (rw (← c.as_str-in-len4-2.ensures.value) c.form_of_three.ensures.form))

pub returns-in-len5-clause-form : goal.returns-in-len5-clause-form
returns-in-len5-clause-form c =
    let five = full_five c.args.words.now _ _ c.in-len5.len_at_least c.in-len5.len_below c.command-item-then-words-lt6.is c.second-item.is in
    rw five (rw (← c.as_str-in-len5.ensures.value) (rw (← c.as_str-in-len5-2.ensures.value) c.form_of_four.ensures.form))
