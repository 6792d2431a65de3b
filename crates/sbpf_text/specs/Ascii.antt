-- The bytes of the assembler text by their names (ASCII).
use Rattle.std.specs.Prelude.{ℕ}

abbrev pub tab : ℕ
tab = 9

abbrev pub line_feed : ℕ
line_feed = 10

abbrev pub space : ℕ
space = 32

abbrev pub tilde : ℕ
tilde = 126

abbrev pub plus : ℕ
plus = 43

abbrev pub comma : ℕ
comma = 44

abbrev pub minus : ℕ
minus = 45

abbrev pub digit_0 : ℕ
digit_0 = 48

abbrev pub digit_1 : ℕ
digit_1 = 49

abbrev pub digit_9 : ℕ
digit_9 = 57

abbrev pub colon : ℕ
colon = 58

abbrev pub semicolon : ℕ
semicolon = 59

abbrev pub upper_a : ℕ
upper_a = 65

abbrev pub upper_f : ℕ
upper_f = 70

abbrev pub upper_z : ℕ
upper_z = 90

abbrev pub open_bracket : ℕ
open_bracket = 91

abbrev pub close_bracket : ℕ
close_bracket = 93

abbrev pub underscore : ℕ
underscore = 95

abbrev pub lower_a : ℕ
lower_a = 97

abbrev pub lower_f : ℕ
lower_f = 102

abbrev pub lower_r : ℕ
lower_r = 114

abbrev pub lower_x : ℕ
lower_x = 120

abbrev pub lower_z : ℕ
lower_z = 122
