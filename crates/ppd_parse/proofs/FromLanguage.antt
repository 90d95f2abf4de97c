-- What the language's grammar reads, the parser's grammar reads.
use Rattle.std.proofs.Common.{◌≡◌, Bool, false, List, [], ◌∷◌, ◌++◌, refl, sym, ap, append_assoc}
use Rattle.ppd_parse.specs.declared.token.Kind.{Kind}
use Rattle.ppd_parse.specs.declared.token.Kind.TheVariants as K
use Rattle.ppd_parse.specs.declared.symbol.Level.{Level}
use Rattle.ppd_parse.specs.declared.symbol.Level.TheVariants as L
use Rattle.ppd_parse.specs.declared.symbol.Rule.TheVariants as R
use Rattle.ppd_parse.specs.declared.symbol.Symbol.TheVariants as S
use Rattle.ppd_parse.specs.declared.symbol.At.{At}
use Rattle.ppd_parse.specs.declared.symbol.Part.{Part}
use Rattle.ppd_parse.specs.declared.symbol.Part.TheVariants as P
use Rattle.ppd_parse.specs.Grammar.{Shape, leaf, node, forest, Marked, kind_at, is_operator, deeper, inside, outside, Production, parts, Stands, MayStand, nothing, next, source, items_end, items_shared, items_sems, items_chans, items_function, items_process, shared, shared_end, shared_more, shared_item, no_start, start, shared_length, start_plain, start_minus, sems, no_sem_start, sem_start, sems_end, sems_more, chans, chans_end, chans_more, function_int, function_void, no_params, some_params, params_void, params_int, params_end, params_more, process, block, stmts_end, stmts_local, stmts_more, local, local_end, local_more, local_item, no_local_start, local_start, local_length, value_recv, value_plain, no_args, some_args, args_end, args_more, minus, negation, parens as parens_unary, number, stmt_block, stmt_empty, stmt_if, stmt_while, stmt_for, stmt_return, stmt_take, stmt_give, stmt_send, stmt_print, stmt_assert, no_else, some_else, for_plain, for_local, for_change, for_ever, for_while, for_still, for_step, return_plain, return_value}
use Rattle.ppd_parse.proofs.Vocabulary.{IsParsed, answer, else_part, heading, NextIsNot}
use Rattle.ppd_parse.specs.Language.{Side, source_side, shared_side, shared_item_side, sems_side, chans_side, function_side, params_side, process_side, block_side, local_side, local_item_side, value_side, place_side, change_side, stmt_side, expr_side, tier, unary_side, Phrase, word, the, ◌·◌, ◌∣◌, many, maybe, opened, parens, brackets, called, call, phrase, IsProgram}
use Rattle.ppd_parse.proofs.Usual.{declarations, expressions}
use Rattle.ppd_parse.proofs.Given.{Gives, Given, Rows, here, token_here, token_below, one, cons, cons_two, cons_three, join_rows, rows_as, free, plain_by, nothing_by, node_by, Next, next_kind, next_left, next_right, is_not, other_kind, is_opening, binds, binds_or, binds_operator, goes, Calm}
use Rattle.ppd_parse.proofs.Given as G
use Rattle.ppd_parse.proofs.Ways.{scalar, element, PlaceWays, place_ways, UnaryWays, place_way, other_way, unary_gives, TierWays, ended, below_ways, first_operand, next_operand, ExprWays, expr_ways, expr_gives, value_gives, CallWays, call_ways, call_gives, call_statement, ChangeWays, change_ways, set_to, add_to, subtract_from, up, down, AnswerWays, received, change_gives, change_statement, answer_statement}
use Rattle.ppd_parse.proofs.Ways as W
use Rattle.ppd_parse.proofs.Seen.{begins_start, item_goes, Goal, below_goal, Seen, one_token, one_sign, one_side, pair, first, second, no_more, one_more, missing, there, not_next, deep, inner, tree, seen}
use Rattle.ppd_parse.specs.Stack.{is_comma, is_assign}

-- ---- what is next

start_stands : (ts : List Marked) → Next begins_start ts → MayStand no_start ts
start_stands [] n = tt
start_stands (x ∷ ts) n = (is_not begins_start (kind_at x) K.AssignMark refl n, is_not begins_start (kind_at x) K.LeftBracket refl n)

local_start_stands : (ts : List Marked) → Next begins_start ts → MayStand no_local_start ts
local_start_stands [] n = tt
local_start_stands (x ∷ ts) n = (is_not begins_start (kind_at x) K.AssignMark refl n, is_not begins_start (kind_at x) K.LeftBracket refl n)

sem_start_stands : (ts : List Marked) → Next is_assign ts → MayStand no_sem_start ts
sem_start_stands [] n = tt
sem_start_stands (x ∷ ts) n = is_not is_assign (kind_at x) K.AssignMark refl n

params_stand : (ts : List Marked) → Next is_comma ts → MayStand params_end ts
params_stand [] n = tt
params_stand (x ∷ ts) n = is_not is_comma (kind_at x) K.Comma refl n

else_stands : (ts : List Marked) → NextIsNot K.ElseWord ts → MayStand no_else ts
else_stands [] n = tt
else_stands (x ∷ ts) n = n

no_bracket : (ts : List Marked) → Next is_opening ts → NextIsNot K.LeftBracket ts
no_bracket [] n = tt
no_bracket (x ∷ ts) n = is_not is_opening (kind_at x) K.LeftBracket refl n

-- what ends a list, or the comma before its next item
list_next : (p : Kind → Bool) (f : Phrase) (k : Kind) {a : At} {ts mid rest : List Marked} {t u : List Shape} → p K.Comma ≡ false → p k ≡ false → Seen (many (word K.Comma · f)) a ts t mid → Seen (word k) a mid u rest → Next p ts
list_next p f k c d no_more (one_token e m) = next_kind p e d
list_next p f k c d (one_more (pair (one_token e m) i) ms) w = next_kind p e c

next_word : (p : Kind → Bool) {k : Kind} {a : At} {ts rest : List Marked} {t : List Shape} → p k ≡ false → Seen (word k) a ts t rest → Next p ts
next_word p f (one_token e m) = next_kind p e f

-- ---- tokens

word_here : {k : Kind} {a : At} {ts rest : List Marked} {t : List Shape} → Seen (word k) a ts t rest → Given a (P.Here (S.Exact k)) ts t rest
word_here (one_token e m) = token_here e m

word_below : {k : Kind} {a : At} {ts rest : List Marked} {t : List Shape} → Seen (word k) (deeper a) ts t rest → Given a (P.Deeper (S.Exact k)) ts t rest
word_below (one_token e m) = token_below e m

-- ---- declarations

shared_items : {a : At} {ts mid rest : List Marked} {t u : List Shape} → Seen (many (word K.Comma · the shared_item_side)) a ts t mid → Seen (word K.Semicolon) a mid u rest → Gives S.SharedItems a ts (t ++ u) rest
shared_items {ts = ts} no_more z = plain_by shared_end (free shared_end (λ k. tt) ts) (one (word_here z))
shared_items {ts = ts} {u = w} (one_more {t = i} {u = v} (pair c (one_side g)) ms) z =
    plain_by shared_more (free shared_more (λ k. tt) ts) (rows_as (sym (append_assoc i v w)) (cons_two (word_here c) (here (g (list_next begins_start (the shared_item_side) K.Semicolon refl refl ms z))) (one (here (shared_items ms z)))))

shared_step : {a : At} {ts rest : List Marked} {t : List Shape} → Seen (phrase shared_side) a ts t rest → Gives S.Shared a ts t rest
shared_step {ts = ts} (tree (pair d (pair i (pair (one_side g) (pair ms z))))) =
    node_by shared R.Shared (P.Here (S.Exact K.SharedWord) ∷ P.Here (S.Exact K.IntWord) ∷ P.Here S.SharedItem ∷ P.Here S.SharedItems ∷ []) refl (λ b n. refl) (free shared (λ k. tt) ts)
    (cons (word_here d) (cons (word_here i) (cons (here (g (list_next begins_start (the shared_item_side) K.Semicolon refl refl ms z))) (one (here (shared_items ms z))))))

shared_item_by : {a : At} {x : Marked} {ts rest : List Marked} {t : List Shape} → kind_at x ≡ K.Name → x.at ≡ a → Gives S.SharedStart a ts t rest → Gives S.SharedItem a (x ∷ ts) (node R.Sitem (forest (leaf x.token ∷ t)) ∷ []) rest
shared_item_by e m g = node_by shared_item R.Sitem (P.Here (S.Exact K.Name) ∷ P.Here S.SharedStart ∷ []) refl (λ b n. refl) tt (cons (token_here e m) (one (here g)))

shared_item_step : {a : At} {ts rest : List Marked} {t : List Shape} → Seen (phrase shared_item_side) a ts t rest → Next begins_start rest → Gives S.SharedItem a ts t rest
shared_item_step {rest = rest} (tree (first (pair (one_token e m) missing))) n = shared_item_by e m (nothing_by no_start refl (start_stands rest n))
shared_item_step (tree (first (pair (one_token e m) (there (pair (one_token f o) (pair missing (one_token h q))))))) n =
    shared_item_by e m (plain_by start tt (cons (token_here f o) (one (here (plain_by start_plain tt (one (token_here h q)))))))
shared_item_step (tree (first (pair (one_token e m) (there (pair (one_token f o) (pair (there (one_token g p)) (one_token h q))))))) n =
    shared_item_by e m (plain_by start tt (cons (token_here f o) (one (here (plain_by start_minus tt (cons (token_here g p) (one (token_here h q))))))))
shared_item_step (tree (second (pair (one_token e m) (deep (pair (one_token f o) (pair (one_token g p) (one_token h q))))))) n =
    shared_item_by e m (plain_by shared_length tt (cons (token_below f o) (cons (token_below g p) (one (token_below h q)))))

sem_start_by : {a : At} {ts rest : List Marked} {t : List Shape} → Seen (maybe (word K.AssignMark · word K.Number)) a ts t rest → Next is_assign rest → Gives S.SemStart a ts t rest
sem_start_by (missing {ts = ts}) n = nothing_by no_sem_start refl (sem_start_stands ts n)
sem_start_by (there (pair (one_token e m) (one_token f o))) n = plain_by sem_start tt (cons (token_here e m) (one (token_here f o)))

sem_items : {a : At} {ts mid rest : List Marked} {t u : List Shape} → Seen (many (word K.Comma · word K.Name · maybe (word K.AssignMark · word K.Number))) a ts t mid → Seen (word K.Semicolon) a mid u rest → Gives S.SemItems a ts (t ++ u) rest
sem_items {ts = ts} no_more z = plain_by sems_end (free sems_end (λ k. tt) ts) (one (word_here z))
sem_items {ts = ts} {u = w} (one_more {u = v} (pair {t = c} d (pair {t = n} {u = i} e s)) ms) z =
    plain_by sems_more (free sems_more (λ k. tt) ts) (rows_as (sym (append_assoc (c ++ (n ++ i)) v w)) (cons_three (word_here d) (word_here e) (here (sem_start_by s (list_next is_assign (word K.Name · maybe (word K.AssignMark · word K.Number)) K.Semicolon refl refl ms z))) (one (here (sem_items ms z)))))

sems_step : {a : At} {ts rest : List Marked} {t : List Shape} → Seen (phrase sems_side) a ts t rest → Gives S.Sems a ts t rest
sems_step {ts = ts} (tree (pair d (pair e (pair s (pair ms z))))) =
    node_by sems R.Sems (P.Here (S.Exact K.SemWord) ∷ P.Here (S.Exact K.Name) ∷ P.Here S.SemStart ∷ P.Here S.SemItems ∷ []) refl (λ b n. refl) (free sems (λ k. tt) ts)
    (cons (word_here d) (cons (word_here e) (cons (here (sem_start_by s (list_next is_assign (word K.Name · maybe (word K.AssignMark · word K.Number)) K.Semicolon refl refl ms z))) (one (here (sem_items ms z))))))

-- a number in brackets
abbrev number_parts : List Part
number_parts = P.Deeper (S.Exact K.LeftBracket) ∷ P.Deeper (S.Exact K.Number) ∷ P.Deeper (S.Exact K.RightBracket) ∷ []

number_rows : {a : At} {ts rest : List Marked} {t : List Shape} → Seen (brackets (word K.Number)) a ts t rest → Rows a number_parts ts t rest
number_rows (deep (pair b (pair n e))) = cons (word_below b) (cons (word_below n) (one (word_below e)))

chan_items : {a : At} {ts mid rest : List Marked} {t u : List Shape} → Seen (many (word K.Comma · word K.Name · brackets (word K.Number))) a ts t mid → Seen (word K.Semicolon) a mid u rest → Gives S.ChanItems a ts (t ++ u) rest
chan_items {ts = ts} no_more z = plain_by chans_end (free chans_end (λ k. tt) ts) (one (word_here z))
chan_items {ts = ts} {u = w} (one_more {t = i} {u = v} (pair d (pair e n)) ms) z =
    plain_by chans_more (free chans_more (λ k. tt) ts) (rows_as (sym (append_assoc i v w)) (join_rows (cons (word_here d) (cons (word_here e) (number_rows n))) (one (here (chan_items ms z)))))

chans_step : {a : At} {ts rest : List Marked} {t : List Shape} → Seen (phrase chans_side) a ts t rest → Gives S.Chans a ts t rest
chans_step {ts = ts} (tree (pair d (pair e (pair n (pair ms z))))) =
    node_by chans R.Chans (P.Here (S.Exact K.ChanWord) ∷ P.Here (S.Exact K.Name) ∷ number_parts ++ P.Here S.ChanItems ∷ []) refl (λ b n. refl) (free chans (λ k. tt) ts)
    (cons (word_here d) (cons (word_here e) (join_rows (number_rows n) (one (here (chan_items ms z))))))

params_by : {a : At} {ts mid rest : List Marked} {t u : List Shape} → Seen (maybe (the params_side)) a ts t mid → Seen (word K.RightParen) a mid u rest → Gives S.ParamsEnd a ts (t ++ u) rest
params_by {ts = ts} missing c = plain_by no_params (free no_params (λ k. tt) ts) (one (word_here c))
params_by {ts = ts} (there (one_side g)) c = plain_by some_params (free some_params (λ k. tt) ts) (cons (here (g (next_word is_comma refl c))) (one (word_here c)))

-- the parts of a function behind its type
abbrev function_parts : List Part
function_parts = P.Here (S.Exact K.Name) ∷ P.Deeper (S.Exact K.LeftParen) ∷ P.Deeper S.ParamsEnd ∷ P.Here S.Block ∷ []

function_rows : {a : At} {ts rest : List Marked} {t : List Shape} → Seen (word K.Name · parens (maybe (the params_side)) · the block_side) a ts t rest → Rows a function_parts ts t rest
function_rows (pair n (pair (deep (pair o (pair ps z))) (one_side b))) = cons (word_here n) (cons_two (word_below o) (G.below (params_by ps z)) (one (here b)))

function_step : {a : At} {ts rest : List Marked} {t : List Shape} → Seen (phrase function_side) a ts t rest → Gives S.Function a ts t rest
function_step {ts = ts} (tree (pair (first w) d)) = node_by function_int R.Function (P.Here (S.Exact K.IntWord) ∷ function_parts) refl (λ b n. refl) (free function_int (λ k. tt) ts) (cons (word_here w) (function_rows d))
function_step {ts = ts} (tree (pair (second w) d)) = node_by function_void R.Function (P.Here (S.Exact K.VoidWord) ∷ function_parts) refl (λ b n. refl) (free function_void (λ k. tt) ts) (cons (word_here w) (function_rows d))

param_items : {a : At} {ts rest : List Marked} {t : List Shape} → Seen (many (word K.Comma · word K.IntWord · word K.Name)) a ts t rest → Next is_comma rest → Gives S.ParamItems a ts t rest
param_items (no_more {ts = ts}) n = nothing_by params_end refl (params_stand ts n)
param_items {ts = ts} (one_more (pair c (pair i d)) ms) n =
    plain_by params_more (free params_more (λ k. tt) ts) (cons_three (word_here c) (word_here i) (word_here d) (one (here (param_items ms n))))

params_step : {a : At} {ts rest : List Marked} {t : List Shape} → Seen (phrase params_side) a ts t rest → Next is_comma rest → Gives S.Params a ts t rest
params_step {ts = ts} (tree (first d)) n = node_by params_void R.Params (P.Here (S.Exact K.VoidWord) ∷ []) refl (λ b n. refl) (free params_void (λ k. tt) ts) (one (word_here d))
params_step {ts = ts} (tree (second (pair i (pair d ms)))) n =
    node_by params_int R.Params (P.Here (S.Exact K.IntWord) ∷ P.Here (S.Exact K.Name) ∷ P.Here S.ParamItems ∷ []) refl (λ b n. refl) (free params_int (λ k. tt) ts) (cons (word_here i) (cons (word_here d) (one (here (param_items ms n)))))

process_step : {a : At} {ts rest : List Marked} {t : List Shape} → Seen (phrase process_side) a ts t rest → Gives S.Process a ts t rest
process_step {ts = ts} (tree (pair d (pair e (one_side b)))) =
    node_by process R.Process (P.Here (S.Exact K.ProcessWord) ∷ P.Here (S.Exact K.Name) ∷ P.Here S.Block ∷ []) refl (λ b n. refl) (free process (λ k. tt) ts) (cons (word_here d) (cons (word_here e) (one (here b))))

items : {a : At} {ts mid rest : List Marked} {t u : List Shape} → Seen declarations a ts t mid → Gives S.Items a mid u rest → Gives S.Items a ts (t ++ u) rest
items no_more g = g
items {ts = ts} {u = w} (one_more {t = i} {u = v} (first (one_side d)) ms) g = plain_by items_shared (free items_shared (λ k. tt) ts) (rows_as (sym (append_assoc i v w)) (cons (here d) (one (here (items ms g)))))
items {ts = ts} {u = w} (one_more {t = i} {u = v} (second (first (one_side d))) ms) g = plain_by items_sems (free items_sems (λ k. tt) ts) (rows_as (sym (append_assoc i v w)) (cons (here d) (one (here (items ms g)))))
items {ts = ts} {u = w} (one_more {t = i} {u = v} (second (second (first (one_side d)))) ms) g = plain_by items_chans (free items_chans (λ k. tt) ts) (rows_as (sym (append_assoc i v w)) (cons (here d) (one (here (items ms g)))))
items {ts = ts} {u = w} (one_more {t = i} {u = v} (second (second (second (first (one_side d))))) ms) g = plain_by items_function (free items_function (λ k. tt) ts) (rows_as (sym (append_assoc i v w)) (cons (here d) (one (here (items ms g)))))
items {ts = ts} {u = w} (one_more {t = i} {u = v} (second (second (second (second (one_side d))))) ms) g = plain_by items_process (free items_process (λ k. tt) ts) (rows_as (sym (append_assoc i v w)) (cons (here d) (one (here (items ms g)))))

source_step : {a : At} {ts rest : List Marked} {t : List Shape} → Seen (phrase source_side) a ts t rest → Gives S.Source a ts t rest
source_step {ts = ts} (tree (pair ms (one_token e m))) =
    node_by source R.Source (P.Here S.Items ∷ []) refl (λ b n. refl) (free source (λ k. tt) ts) (one (here (items ms (plain_by items_end tt (one (token_here e m))))))

-- ---- blocks and locals

stmts : {a : At} {ts mid rest : List Marked} {t u : List Shape} → Seen (many (the local_side ∣ the stmt_side)) a ts t mid → Gives S.Stmts a mid u rest → Gives S.Stmts a ts (t ++ u) rest
stmts no_more g = g
stmts {ts = ts} {u = w} (one_more {t = i} {u = v} (first (one_side d)) ms) g = plain_by stmts_local (free stmts_local (λ k. tt) ts) (rows_as (sym (append_assoc i v w)) (cons (here d) (one (here (stmts ms g)))))
stmts {ts = ts} {u = w} (one_more {t = i} {u = v} (second (one_side d)) ms) g = plain_by stmts_more (free stmts_more (λ k. tt) ts) (rows_as (sym (append_assoc i v w)) (cons (here d) (one (here (stmts ms g)))))

block_step : {a : At} {ts rest : List Marked} {t : List Shape} → Seen (phrase block_side) a ts t rest → Gives S.Block a ts t rest
block_step (tree (deep (pair (one_token e m) (pair ms (one_token f n))))) =
    node_by block R.Block (P.Deeper (S.Exact K.LeftBrace) ∷ P.Deeper S.Stmts ∷ []) refl (λ b n. refl) tt (cons (token_below e m) (one (G.below (stmts ms (plain_by stmts_end tt (one (token_here f n)))))))

local_items : {a : At} {ts mid rest : List Marked} {t u : List Shape} → Seen (many (word K.Comma · the local_item_side)) a ts t mid → Seen (word K.Semicolon) a mid u rest → Gives S.LocalItems a ts (t ++ u) rest
local_items no_more (one_token e m) = plain_by local_end tt (one (token_here e m))
local_items {u = w} (one_more {u = v} (pair {u = i} (one_token {x = x} e m) (one_side g)) ms) z =
    plain_by local_more tt (rows_as (ap (λ y. leaf x.token ∷ y) (sym (append_assoc i v w))) (cons (token_here e m) (cons (here (g (list_next item_goes (the local_item_side) K.Semicolon refl refl ms z))) (one (here (local_items ms z))))))

local_step : {a : At} {ts rest : List Marked} {t : List Shape} → Seen (phrase local_side) a ts t rest → Gives S.Local a ts t rest
local_step (tree (pair (one_token e m) (pair (one_side g) (pair ms z)))) =
    node_by local R.Local (P.Here (S.Exact K.IntWord) ∷ P.Here S.LocalItem ∷ P.Here S.LocalItems ∷ []) refl (λ b n. refl) tt
    (cons (token_here e m) (cons (here (g (list_next item_goes (the local_item_side) K.Semicolon refl refl ms z))) (one (here (local_items ms z)))))

local_item_by : {a : At} {x : Marked} {ts rest : List Marked} {t : List Shape} → kind_at x ≡ K.Name → x.at ≡ a → Gives S.LocalStart a ts t rest → Gives S.LocalItem a (x ∷ ts) (node R.Litem (forest (leaf x.token ∷ t)) ∷ []) rest
local_item_by e m g = node_by local_item R.Litem (P.Here (S.Exact K.Name) ∷ P.Here S.LocalStart ∷ []) refl (λ b n. refl) tt (cons (token_here e m) (one (here g)))

local_item_step : {a : At} {ts rest : List Marked} {t : List Shape} → Seen (phrase local_item_side) a ts t rest → Next item_goes rest → Gives S.LocalItem a ts t rest
local_item_step {rest = rest} (tree (first (pair (one_token e m) missing))) n = local_item_by e m (nothing_by no_local_start refl (local_start_stands rest (next_left begins_start goes rest n)))
local_item_step {rest = rest} (tree (first (pair (one_token e m) (there (pair (one_token f o) (one_side g)))))) n =
    local_item_by e m (plain_by local_start tt (cons (token_here f o) (one (here (g (next_right begins_start goes rest n))))))
local_item_step (tree (second (pair (one_token e m) (deep (pair (one_token f o) (pair (one_token g p) (one_token h q))))))) n =
    local_item_by e m (plain_by local_length tt (cons (token_below f o) (cons (token_below g p) (one (token_below h q)))))

-- ---- expressions

more_args : {a : At} {ts mid rest : List Marked} {t u : List Shape} → Seen (many (word K.Comma · the expr_side)) a ts t mid → Seen (word K.RightParen) a mid u rest → Gives S.ArgsMore a ts (t ++ u) rest
more_args no_more (one_token e m) = plain_by args_end tt (one (token_here e m))
more_args {u = w} (one_more {u = v} (pair {u = i} (one_token {x = x} e m) (one_side g)) ms) z =
    plain_by args_more tt (rows_as (ap (λ y. leaf x.token ∷ y) (sym (append_assoc i v w))) (cons (token_here e m) (cons (here (expr_gives (g (list_next goes (the expr_side) K.RightParen refl refl ms z)))) (one (here (more_args ms z))))))

args : {a : At} {ts mid rest : List Marked} {t u : List Shape} → Seen expressions a ts t mid → Seen (word K.RightParen) a mid u rest → Gives S.Args a ts (t ++ u) rest
args missing (one_token e m) = plain_by no_args tt (one (token_here e m))
args {ts = ts} {u = w} (there (pair {t = i} {u = v} (one_side g) ms)) z =
    plain_by some_args (free some_args (λ k. tt) ts) (rows_as (sym (append_assoc i v w)) (cons (here (expr_gives (g (list_next goes (the expr_side) K.RightParen refl refl ms z)))) (one (here (more_args ms z)))))

called_seen : {a : At} {ts rest : List Marked} {t : List Shape} → Seen called a ts t rest → CallWays (inside a) a ts t rest
called_seen (tree (pair (inner (one_token e m)) (deep (pair (one_token f n) (pair xs z))))) = call_ways e m (cons (token_below f n) (one (G.below (args xs z))))

call_seen : {a : At} {ts rest : List Marked} {t : List Shape} → Seen (call (word K.Name)) a ts t rest → CallWays a a ts t rest
call_seen (tree (pair (one_token e m) (deep (pair (one_token f n) (pair xs z))))) = call_ways e m (cons (token_below f n) (one (G.below (args xs z))))

value_step : {a : At} {ts rest : List Marked} {t : List Shape} → Seen (phrase value_side) a ts t rest → Calm rest → Gives S.Value a ts t rest
value_step (tree (first (pair (one_token e m) (deep (pair (one_token f o) (pair (one_token g p) (one_token h q))))))) n =
    node_by value_recv R.Value (P.Here (S.Exact K.RecvWord) ∷ P.Deeper (S.Exact K.LeftParen) ∷ P.Deeper (S.Exact K.Name) ∷ P.Deeper (S.Exact K.RightParen) ∷ []) refl (λ b n. refl) tt
    (cons (token_here e m) (cons (token_below f o) (cons (token_below g p) (one (token_below h q)))))
value_step {ts = ts} (tree (second (first c))) n = node_by value_plain R.Value (P.Here S.CallOrExpr ∷ []) refl (λ b n. refl) (free value_plain (λ k. tt) ts) (one (here (call_gives (called_seen c))))
value_step {ts = ts} (tree (second (second (one_side g)))) n = node_by value_plain R.Value (P.Here S.CallOrExpr ∷ []) refl (λ b n. refl) (free value_plain (λ k. tt) ts) (one (here (value_gives (g n))))

place_step : {a : At} {ts rest : List Marked} {t : List Shape} → Seen (phrase place_side) a ts t rest → NextIsNot K.LeftBracket rest → PlaceWays a ts t rest
place_step (tree (pair (one_token e m) missing)) n = place_ways e m (scalar n)
place_step (tree (pair (one_token e m) (there (deep (pair (one_token f o) (pair (one_side g) (one_token h q))))))) n = place_ways e m (element f o (expr_gives (g (next_kind goes h refl))) h q)

change_step : {a : At} {ts rest : List Marked} {t : List Shape} → Seen (phrase change_side) a ts t rest → Calm rest → ChangeWays a ts t rest
change_step (tree (first (pair (one_side p) (pair (first (one_token e m)) (one_side g))))) n = change_ways (p (other_kind e (λ d. cc))) (set_to e m (g n))
change_step (tree (first (pair (one_side p) (pair (second (first (one_token e m))) (one_side g))))) n = change_ways (p (other_kind e (λ d. cc))) (add_to e m (g n))
change_step (tree (first (pair (one_side p) (pair (second (second (one_token e m))) (one_side g))))) n = change_ways (p (other_kind e (λ d. cc))) (subtract_from e m (g n))
change_step (tree (second (pair (one_side p) (first (one_token e m))))) n = change_ways (p (other_kind e (λ d. cc))) (up e m)
change_step (tree (second (pair (one_side p) (second (one_token e m))))) n = change_ways (p (other_kind e (λ d. cc))) (down e m)

expr_step : {a : At} {ts rest : List Marked} {t : List Shape} → Seen (phrase expr_side) a ts t rest → Calm rest → ExprWays a ts t rest
expr_step {rest = rest} (inner (one_side g)) n = expr_ways (ended L.Or (g (next_right (is_operator L.Or) binds_or rest n)) (next_left (is_operator L.Or) binds_or rest n))

tier_step : (l : Level) {a : At} {ts rest : List Marked} {t : List Shape} → Seen (phrase (tier l)) a ts t rest → Next (binds l) rest → TierWays l a ts t rest
tier_step l {a} {ts} {rest} {t} (first (one_side g)) n = first_operand l (below_ways l (below_goal l a ts t rest g) n)
tier_step l {a} {rest = rest} (second (tree (pair (one_side g) (pair {u = u} {mid = mid} (one_sign {x = x} e m) (one_side h))))) n = next_operand l (g (binds_operator l (kind_at x) e)) e m (below_ways l (below_goal l a mid u rest h) n)

unary_step : {a : At} {ts rest : List Marked} {t : List Shape} → Seen (phrase unary_side) a ts t rest → Next is_opening rest → UnaryWays a ts t rest
unary_step (tree (first (deep (pair (first (one_token e m)) (one_side g))))) n = other_way (node_by negation R.Unary (P.Deeper (S.Exact K.NotMark) ∷ P.Deeper S.Unary ∷ []) refl (λ b n. refl) tt (cons (token_below e m) (one (G.below (unary_gives (g n))))))
unary_step (tree (first (deep (pair (second (one_token e m)) (one_side g))))) n = other_way (node_by minus R.Unary (P.Deeper (S.Exact K.MinusMark) ∷ P.Deeper S.Unary ∷ []) refl (λ b n. refl) tt (cons (token_below e m) (one (G.below (unary_gives (g n))))))
unary_step (tree (second (first (deep (pair (one_token e m) (pair (one_side g) (one_token f o))))))) n =
    other_way (node_by parens_unary R.Unary (P.Deeper (S.Exact K.LeftParen) ∷ P.Deeper S.Expr ∷ P.Deeper (S.Exact K.RightParen) ∷ []) refl (λ b n. refl) tt (cons (token_below e m) (cons (G.below (expr_gives (g (next_kind goes f refl)))) (one (token_below f o)))))
unary_step (tree (second (second (first (one_token e m))))) n = other_way (node_by number R.Unary (P.Here (S.Exact K.Number) ∷ []) refl (λ b n. refl) tt (one (token_here e m)))
unary_step {rest = rest} (tree (second (second (second (one_side p))))) n = place_way (p (no_bracket rest n)) n

-- ---- statements

else_by : {a : At} {ts rest : List Marked} {t : List Shape} → Seen else_part a ts t rest → Gives S.ElsePart a ts t rest
else_by (first (pair (one_token e m) (deep (one_side g)))) = plain_by some_else tt (cons (token_here e m) (one (G.below g)))
else_by (second (not_next {ts = ts} n)) = nothing_by no_else refl (else_stands ts n)

for_start_by : {a : At} {ts mid rest : List Marked} {t u : List Shape} → Seen (maybe (word K.IntWord · word K.Name · word K.AssignMark · the expr_side ∣ the change_side)) a ts t mid → Seen (word K.Semicolon) a mid u rest → Gives S.ForStart a ts (t ++ u) rest
for_start_by missing (one_token e m) = plain_by for_plain tt (one (token_here e m))
for_start_by (there (first (pair (one_token f n) (pair (one_token g o) (pair (one_token h p) (one_side i)))))) (one_token e m) =
    plain_by for_local tt (cons (token_here f n) (cons (token_here g o) (cons (token_here h p) (cons (here (expr_gives (i (next_kind goes e refl)))) (one (token_here e m))))))
for_start_by {ts = ts} (there (second (one_side g))) (one_token e m) = plain_by for_change (free for_change (λ k. tt) ts) (cons (here (change_gives (g (next_kind goes e refl)))) (one (token_here e m)))

for_test_by : {a : At} {ts mid rest : List Marked} {t u : List Shape} → Seen (maybe (the expr_side)) a ts t mid → Seen (word K.Semicolon) a mid u rest → Gives S.ForTest a ts (t ++ u) rest
for_test_by missing (one_token e m) = plain_by for_ever tt (one (token_here e m))
for_test_by {ts = ts} (there (one_side g)) (one_token e m) = plain_by for_while (free for_while (λ k. tt) ts) (cons (here (expr_gives (g (next_kind goes e refl)))) (one (token_here e m)))

for_step_by : {a : At} {ts mid rest : List Marked} {t u : List Shape} → Seen (maybe (the change_side)) a ts t mid → Seen (word K.RightParen) a mid u rest → Gives S.ForStep a ts (t ++ u) rest
for_step_by missing (one_token e m) = plain_by for_still tt (one (token_here e m))
for_step_by {ts = ts} (there (one_side g)) (one_token e m) = plain_by for_step (free for_step (λ k. tt) ts) (cons (here (change_gives (g (next_kind goes e refl)))) (one (token_here e m)))

return_by : {a : At} {ts mid rest : List Marked} {t u : List Shape} → Seen (maybe (called ∣ the expr_side)) a ts t mid → Seen (word K.Semicolon) a mid u rest → Gives S.ReturnEnd a ts (t ++ u) rest
return_by missing (one_token e m) = plain_by return_plain tt (one (token_here e m))
return_by {ts = ts} (there (first c)) (one_token e m) = plain_by return_value (free return_value (λ k. tt) ts) (cons (here (call_gives (called_seen c))) (one (token_here e m)))
return_by {ts = ts} (there (second (one_side g))) (one_token e m) = plain_by return_value (free return_value (λ k. tt) ts) (cons (here (value_gives (g (next_kind goes e refl)))) (one (token_here e m)))

answer_seen : {a : At} {ts rest : List Marked} {t : List Shape} → Seen answer a ts t rest → AnswerWays a ts t rest
answer_seen (tree (first (pair (one_token e m) (deep (pair (one_token f o) (pair (one_token g p) (one_token h q))))))) = received e m (cons (token_below f o) (cons (token_below g p) (one (token_below h q))))
answer_seen (tree (second c)) = W.called (called_seen c)

for_trees : (h t u v w c e q : List Shape) → h ++ ((t ++ c) ++ ((u ++ e) ++ ((v ++ q) ++ w))) ≡ (h ++ ((t ++ (c ++ (u ++ (e ++ v)))) ++ q)) ++ w
for_trees h t u v w c e q = simp append_assoc

-- a statement's own node over the trees of its parts
stmt_by : (p : Production S.Stmt) (ps : List Part) {a : At} {ts rest : List Marked} {t : List Shape} → parts p ≡ ps ++ P.Wrap R.Stmt ∷ [] → ((k : Kind) → Stands p k) → Rows a ps ts t rest → Gives S.Stmt a ts (node R.Stmt (forest t) ∷ []) rest
stmt_by p ps {ts = ts} e h r = node_by p R.Stmt ps e (λ b n. refl) (free p h ts) r

-- what the phrase reads is a statement
abbrev Makes : Phrase → Type 0
Makes f = (a : At) (ts : List Marked) (t : List Shape) (rest : List Marked) → Seen f a ts t rest → Gives S.Stmt a ts (node R.Stmt (forest t) ∷ []) rest

either : {f g : Phrase} → Makes f → Makes g → Makes (f ∣ g)
either h k a ts t rest (first d) = h a ts t rest d
either h k a ts t rest (second d) = k a ts t rest d

block_stmt : Makes (the block_side)
block_stmt a ts t rest (one_side g) = stmt_by stmt_block (P.Here S.Block ∷ []) refl (λ k. tt) (one (here g))

empty_stmt : Makes (word K.Semicolon)
empty_stmt a ts t rest d = stmt_by stmt_empty (P.Here (S.Exact K.Semicolon) ∷ []) refl (λ k. tt) (one (word_here d))

change_stmt : Makes (the change_side · word K.Semicolon)
change_stmt a ts t rest (pair (one_side g) (one_token e m)) = change_statement (g (next_kind goes e refl)) e m

answer_stmt : Makes (the place_side · word K.AssignMark · answer · word K.Semicolon)
answer_stmt a ts t rest (pair (one_side p) (pair (one_token f n) (pair v (one_token e m)))) = answer_statement (p (other_kind f (λ d. cc))) f n (answer_seen v) e m

call_stmt : Makes (call (word K.Name) · word K.Semicolon)
call_stmt a ts t rest (pair c (one_token e m)) = call_statement (call_seen c) e m

if_stmt : Makes (word K.IfWord · parens (the expr_side) · opened (the stmt_side) · else_part)
if_stmt a ts t rest (pair i (pair (deep (pair o (pair (one_side g) c))) (pair (deep (one_side s)) el))) =
    stmt_by stmt_if (P.Here (S.Exact K.IfWord) ∷ P.Deeper (S.Exact K.LeftParen) ∷ P.Deeper S.Expr ∷ P.Deeper (S.Exact K.RightParen) ∷ P.Deeper S.Stmt ∷ P.Here S.ElsePart ∷ []) refl (λ k. tt)
    (cons (word_here i) (cons_three (word_below o) (G.below (expr_gives (g (next_word goes refl c)))) (word_below c) (cons (G.below s) (one (here (else_by el))))))

while_stmt : Makes (word K.WhileWord · parens (the expr_side) · opened (the stmt_side))
while_stmt a ts t rest (pair w (pair (deep (pair o (pair (one_side g) c))) (deep (one_side s)))) =
    stmt_by stmt_while (P.Here (S.Exact K.WhileWord) ∷ P.Deeper (S.Exact K.LeftParen) ∷ P.Deeper S.Expr ∷ P.Deeper (S.Exact K.RightParen) ∷ P.Deeper S.Stmt ∷ []) refl (λ k. tt)
    (cons (word_here w) (cons_three (word_below o) (G.below (expr_gives (g (next_word goes refl c)))) (word_below c) (one (G.below s))))

for_stmt : Makes (word K.ForWord · parens heading · opened (the stmt_side))
for_stmt a ts x rest (pair {t = f} d (pair {u = w} (deep (pair {t = h} o (pair {u = q} (pair {t = t} i (pair {t = c} c1 (pair {t = u} j (pair {t = e} {u = v} c2 k)))) z))) (deep (one_side s)))) =
    stmt_by stmt_for (P.Here (S.Exact K.ForWord) ∷ P.Deeper (S.Exact K.LeftParen) ∷ P.Deeper S.ForStart ∷ P.Deeper S.ForTest ∷ P.Deeper S.ForStep ∷ P.Deeper S.Stmt ∷ []) refl (λ k. tt)
    (rows_as (ap (λ r. f ++ r) (for_trees h t u v w c e q)) (cons (word_here d) (cons (word_below o) (cons (G.below (for_start_by i c1)) (cons (G.below (for_test_by j c2)) (cons (G.below (for_step_by k z)) (one (G.below s))))))))

return_stmt : Makes (word K.ReturnWord · maybe (called ∣ the expr_side) · word K.Semicolon)
return_stmt a ts t rest (pair d (pair v z)) =
    stmt_by stmt_return (P.Here (S.Exact K.ReturnWord) ∷ P.Here S.ReturnEnd ∷ []) refl (λ k. tt) (cons (word_here d) (one (here (return_by v z))))

take_stmt : Makes (word K.TakeWord · parens (word K.Name) · word K.Semicolon)
take_stmt a ts t rest (pair d (pair (deep (pair o (pair n c))) z)) =
    stmt_by stmt_take (P.Here (S.Exact K.TakeWord) ∷ P.Deeper (S.Exact K.LeftParen) ∷ P.Deeper (S.Exact K.Name) ∷ P.Deeper (S.Exact K.RightParen) ∷ P.Here (S.Exact K.Semicolon) ∷ []) refl (λ k. tt)
    (cons (word_here d) (cons_three (word_below o) (word_below n) (word_below c) (one (word_here z))))

give_stmt : Makes (word K.GiveWord · parens (word K.Name) · word K.Semicolon)
give_stmt a ts t rest (pair d (pair (deep (pair o (pair n c))) z)) =
    stmt_by stmt_give (P.Here (S.Exact K.GiveWord) ∷ P.Deeper (S.Exact K.LeftParen) ∷ P.Deeper (S.Exact K.Name) ∷ P.Deeper (S.Exact K.RightParen) ∷ P.Here (S.Exact K.Semicolon) ∷ []) refl (λ k. tt)
    (cons (word_here d) (cons_three (word_below o) (word_below n) (word_below c) (one (word_here z))))

send_stmt : Makes (word K.SendWord · parens (word K.Name · word K.Comma · the expr_side) · word K.Semicolon)
send_stmt a ts t rest (pair d (pair (deep (pair o (pair (pair n (pair k (one_side x))) c))) z)) =
    stmt_by stmt_send (P.Here (S.Exact K.SendWord) ∷ P.Deeper (S.Exact K.LeftParen) ∷ P.Deeper (S.Exact K.Name) ∷ P.Deeper (S.Exact K.Comma) ∷ P.Deeper S.Expr ∷ P.Deeper (S.Exact K.RightParen) ∷ P.Here (S.Exact K.Semicolon) ∷ []) refl (λ k. tt)
    (cons (word_here d) (join_rows (cons (word_below o) (join_rows (cons (word_below n) (cons (word_below k) (one (G.below (expr_gives (x (next_word goes refl c))))))) (one (word_below c)))) (one (word_here z))))

print_stmt : Makes (word K.PrintWord · parens (the expr_side) · word K.Semicolon)
print_stmt a ts t rest (pair d (pair (deep (pair o (pair (one_side x) c))) z)) =
    stmt_by stmt_print (P.Here (S.Exact K.PrintWord) ∷ P.Deeper (S.Exact K.LeftParen) ∷ P.Deeper S.Expr ∷ P.Deeper (S.Exact K.RightParen) ∷ P.Here (S.Exact K.Semicolon) ∷ []) refl (λ k. tt)
    (cons (word_here d) (cons_three (word_below o) (G.below (expr_gives (x (next_word goes refl c)))) (word_below c) (one (word_here z))))

assert_stmt : Makes (word K.AssertWord · parens (the expr_side) · word K.Semicolon)
assert_stmt a ts t rest (pair d (pair (deep (pair o (pair (one_side x) c))) z)) =
    stmt_by stmt_assert (P.Here (S.Exact K.AssertWord) ∷ P.Deeper (S.Exact K.LeftParen) ∷ P.Deeper S.Expr ∷ P.Deeper (S.Exact K.RightParen) ∷ P.Here (S.Exact K.Semicolon) ∷ []) refl (λ k. tt)
    (cons (word_here d) (cons_three (word_below o) (G.below (expr_gives (x (next_word goes refl c)))) (word_below c) (one (word_here z))))

stmt_step : {a : At} {ts rest : List Marked} {t : List Shape} → Seen (phrase stmt_side) a ts t rest → Gives S.Stmt a ts t rest
stmt_step {a} {ts} {rest} (tree {t = t} d) =
    either block_stmt (either empty_stmt (either change_stmt (either answer_stmt (either call_stmt (either if_stmt (either while_stmt (either for_stmt (either return_stmt (either take_stmt (either give_stmt (either send_stmt (either print_stmt assert_stmt)))))))))))) a ts t rest d

-- ---- all left sides

step : (y : Side) (a : At) (ts : List Marked) (t : List Shape) (rest : List Marked) → Seen (phrase y) a ts t rest → Goal y a ts t rest
step source_side a ts t rest d = source_step d
step shared_side a ts t rest d = shared_step d
step shared_item_side a ts t rest d = shared_item_step d
step sems_side a ts t rest d = sems_step d
step chans_side a ts t rest d = chans_step d
step function_side a ts t rest d = function_step d
step params_side a ts t rest d = params_step d
step process_side a ts t rest d = process_step d
step block_side a ts t rest d = block_step d
step local_side a ts t rest d = local_step d
step local_item_side a ts t rest d = local_item_step d
step value_side a ts t rest d = value_step d
step place_side a ts t rest d = place_step d
step change_side a ts t rest d = change_step d
step stmt_side a ts t rest d = stmt_step d
step expr_side a ts t rest d = expr_step d
step (tier l) a ts t rest d = tier_step l d
step unary_side a ts t rest d = unary_step d

-- A program is read by the parser, with the same tree.
pub program_parsed : {ts : List Marked} {f : List Shape} → IsProgram ts f → IsParsed ts f
program_parsed p = only (seen step p)
  where
    only : {ts : List Marked} {f : List Shape} → Seen (the source_side) outside ts f [] → IsParsed ts f
    only (one_side g) = next (g [] 0) nothing
