-- The source that a number drills: a pipeline of processes, each with one channel from the one before it.
use Rattle.std.specs.Prelude.{ℕ, ◌+◌, ◌-◌, ◌*◌, ◌%◌, List, ◌++◌, codes, decimal}
use Rattle.std.specs.List.{flat_map, range_with_len}

-- how many values go through the pipeline
abbrev pub turns : ℕ → ℕ
turns n = 1000 * (1 + n % 20)

-- the channel after process k
abbrev pub channel_line : ℕ → List ℕ
channel_line k = codes "chan c" ++ decimal k ++ codes "[4];\n"

-- the head of the loop in which a process handles each value
abbrev pub head_of_loop : ℕ → List ℕ
head_of_loop n = codes "while (i < " ++ decimal (turns n) ++ codes ") { "

-- the first process makes the values
abbrev pub first_process : ℕ → List ℕ
first_process n =
    codes "process p0 { int i = 0; " ++ head_of_loop n ++ (codes "send(c0, i * 3 + " ++ decimal n)
    ++ codes "); i = i + 1; } }\n"

-- a process in between adds its number to each
abbrev pub middle_process : ℕ → ℕ → List ℕ
middle_process n k =
    codes "process p" ++ decimal k ++ codes " { int i = 0; int v; " ++ head_of_loop n
    ++ (codes "v = recv(c" ++ decimal (k - 1)) ++ (codes "); send(c" ++ decimal k) ++ (codes ", v + " ++ decimal k)
    ++ codes "); i = i + 1; } }\n"

-- the last process, number k, adds them up
abbrev pub last_process : ℕ → ℕ → List ℕ
last_process n k =
    codes "process p" ++ decimal k ++ codes " { int i = 0; int v; int sum = 0; " ++ head_of_loop n
    ++ (codes "v = recv(c" ++ decimal (k - 1))
    ++ codes "); sum = sum + v; i = i + 1; } total = sum; print(sum); }\n"

-- the source of number n with k channels
abbrev pub pipeline : ℕ → ℕ → List ℕ
pipeline n k =
    codes "shared int total;\n" ++ flat_map channel_line (range_with_len 0 k) ++ first_process n
    ++ flat_map (middle_process n) (range_with_len 1 (k - 1)) ++ last_process n k

-- the source of a number: it has 2 to 7 channels, and one process more
abbrev pub generated : ℕ → List ℕ
generated n = pipeline n (2 + n % 6)
