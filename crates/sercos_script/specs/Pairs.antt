-- The two links of which `Both` consists.
use Rattle.sercos_script.specs.declared.link.Both.{Both}

abbrev pub first_of : {A B : Type 0} → Both A B → A
first_of link = link.first

abbrev pub second_of : {A B : Type 0} → Both A B → B
second_of link = link.second
