mod Latest
