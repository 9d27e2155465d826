mod Compared
