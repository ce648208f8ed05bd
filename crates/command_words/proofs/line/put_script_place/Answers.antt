use Rattle.command_words.proofs.line.put_script_place.Goals as goal

pub returns-in-Syntax : goal.returns-in-Syntax
returns-in-Syntax g c = rw c.in-Syntax.is c.put_number.ensures

pub returns-in-Name : goal.returns-in-Name
returns-in-Name g c = rw c.in-Name.is c.put_number-in-Name.ensures

pub returns-in-Shape : goal.returns-in-Shape
returns-in-Shape g c = rw c.in-Shape.is c.put_number-in-Shape.ensures
